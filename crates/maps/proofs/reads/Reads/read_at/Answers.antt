-- `maps::reads::Reads::read_at` meets its contract. Assumes nothing.
use Rattle.maps.proofs.Entering.{turned, sigma_reads, tau_reads, transpose_reads, rows_reads, cols_reads, upper_reads, lower_reads, cols_left_reads, cols_right_reads, left_reads, right_reads}
use Rattle.maps.proofs.reads.Reads.read_at.Goals as goal

pub returns-in-Sigma : goal.returns-in-Sigma
returns-in-Sigma c =
    let m = c.args.self in
    rw (← c.rows-d.ensures) (sigma_reads (turned c.rows-d.ensures c.requires m.shift_is m.shift_low) c.in-Sigma.is c.folded-both.ensures c.entry.ensures)

pub returns-in-Tau : goal.returns-in-Tau
returns-in-Tau c =
    let m = c.args.self in
    rw (← c.rows-d.ensures) (tau_reads (turned c.rows-d.ensures c.requires m.shift_is m.shift_low) c.in-Tau.is c.folded-both.ensures c.entry-in-Tau.ensures)

pub returns-in-Transpose : goal.returns-in-Transpose
returns-in-Transpose c =
    let m = c.args.self in
    rw (← c.rows-d.ensures) (transpose_reads (turned c.rows-d.ensures c.requires m.shift_is m.shift_low) c.in-Transpose.is c.entry-in-Transpose.ensures)

pub returns-in-RotateRows : goal.returns-in-RotateRows
returns-in-RotateRows c =
    let m = c.args.self in
    rw (← c.rows-d.ensures) (rows_reads (turned c.rows-d.ensures c.requires m.shift_is m.shift_low) c.in-RotateRows.is c.folded-row.ensures c.entry-in-RotateRows.ensures)

pub returns-in-RotateCols : goal.returns-in-RotateCols
returns-in-RotateCols c =
    let m = c.args.self in
    rw (← c.rows-d.ensures) (cols_reads (turned c.rows-d.ensures c.requires m.shift_is m.shift_low) c.in-RotateCols.is c.folded-col.ensures c.entry-in-RotateCols.ensures)

pub returns-in-RowsUpper : goal.returns-in-RowsUpper
returns-in-RowsUpper c =
    let m = c.args.self in
    rw (← c.rows-d.ensures) (upper_reads (turned c.rows-d.ensures c.requires m.shift_is m.shift_low) c.in-RowsUpper.is c.folded-row.ensures c.entry-in-RowsUpper.ensures)

pub returns-in-RowsLower : goal.returns-in-RowsLower
returns-in-RowsLower c =
    let m = c.args.self in
    rw (← c.rows-d.ensures) (lower_reads (turned c.rows-d.ensures c.requires m.shift_is m.shift_low) c.in-RowsLower.is c.folded-row.ensures c.entry-in-RowsLower.ensures)

pub returns-in-ColsLeft : goal.returns-in-ColsLeft
returns-in-ColsLeft c =
    let m = c.args.self in
    rw (← c.rows-d.ensures) (cols_left_reads (turned c.rows-d.ensures c.requires m.shift_is m.shift_low) c.in-ColsLeft.is c.folded-col.ensures c.entry-in-ColsLeft.ensures)

pub returns-in-ColsRight : goal.returns-in-ColsRight
returns-in-ColsRight c =
    let m = c.args.self in
    rw (← c.rows-d.ensures) (cols_right_reads (turned c.rows-d.ensures c.requires m.shift_is m.shift_low) c.in-ColsRight.is c.folded-col.ensures c.entry-in-ColsRight.ensures)

pub returns-in-RowsLeft : goal.returns-in-RowsLeft
returns-in-RowsLeft c =
    let m = c.args.self in
    rw (← c.rows-d.ensures) (left_reads (turned c.rows-d.ensures c.requires m.shift_is m.shift_low) c.in-RowsLeft.is c.folded-row.ensures c.entry-in-RowsLeft.ensures)

pub returns-in-RowsRight : goal.returns-in-RowsRight
returns-in-RowsRight c =
    let m = c.args.self in
    rw (← c.rows-d.ensures) (right_reads (turned c.rows-d.ensures c.requires m.shift_is m.shift_low) c.in-RowsRight.is c.folded-row.ensures c.entry-in-RowsRight.ensures)
