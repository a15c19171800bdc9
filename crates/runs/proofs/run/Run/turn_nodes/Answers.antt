-- `runs::run::Run::turn_nodes` meets its contract. Assumes nothing.
use Rattle.std.proofs.Common.{refl, arith}
use Rattle.runs.proofs.GiantNodes.{part_length}
use Rattle.runs.proofs.NodeTurning.{turns_inside, turns_asked, turned_own, tree_width, tree_bits, tree_giants, tree_leaves, pairs_asked, turned_pairs, put_back}
use Rattle.runs.proofs.Running.{some_baby, plan_parts, powers_are, turns_told, turning_asked}
use Rattle.runs.proofs.run.Run.turn_nodes.Goals as goal

pub baby_switches-own-requires : goal.baby_switches-own-requires
baby_switches-own-requires c = some_baby c.requires.run_asked.written

pub parts-requires : goal.parts-requires
parts-requires c = plan_parts c.requires.run_asked.written

pub overflow_sub-start-in-None : goal.overflow_sub-start-in-None
overflow_sub-start-in-None c =
    let a = c.requires.run_asked in
    turns_inside (turning_asked a c.parts.ensures c.requires.made_bound) (powers_are a.written) (turns_told a.written c.baby_switches-own.ensures) c.in-None.is

pub turn_giants-requires : goal.turn_giants-requires
turn_giants-requires c =
    let a = c.requires.run_asked in
    turns_asked (turning_asked a c.parts.ensures c.requires.made_bound) (powers_are a.written) (turns_told a.written c.baby_switches-own.ensures) c.in-None.is
    (part_length c.args.words.now.log.now c.args.made c.baby_switches-own.result (omega (arith, c.baby_switches-own.ensures, c.requires.made_bound, a.log_room)))

pub returns-in-None-clause-turned : goal.returns-in-None-clause-turned
returns-in-None-clause-turned c =
    let a = c.requires.run_asked in
    let n = part_length c.args.words.now.log.now c.args.made c.baby_switches-own.result (omega (arith, c.baby_switches-own.ensures, c.requires.made_bound, a.log_room)) in
    let t = turned_own (turning_asked a c.parts.ensures c.requires.made_bound) (powers_are a.written) (turns_told a.written c.baby_switches-own.ensures) c.in-None.is n c.turn_giants.ensures in
    record { plan_is = refl; cache_is = refl; turned = t.turned; logs = put_back c.args.words.now.log.now c.baby_switches-own.ensures t.logs t.len; out_is = refl; len = c.turn_giants.auto.nodes }

pub invariant_of-tree : goal.invariant_of-tree
invariant_of-tree c =
    let t = turning_asked c.requires.run_asked c.parts.ensures c.requires.made_bound in
    let e = powers_are c.requires.run_asked.written in
    let z = c.in-Some.is in
    let v = c.width_of-width.ensures in
    record { slots_range = t.range; width_range = tree_width t e z v; bits_low = tree_bits t e z v; giants_each = tree_giants t e z v; leaves_rise = tree_leaves t e z v }

pub join_pairs-requires : goal.join_pairs-requires
join_pairs-requires c =
    let a = c.requires.run_asked in
    pairs_asked (turning_asked a c.parts.ensures c.requires.made_bound) (powers_are a.written) c.in-Some.is c.width_of-width.ensures _ refl refl refl refl
    (part_length c.args.words.now.log.now c.args.made c.baby_switches-own.result (omega (arith, c.baby_switches-own.ensures, c.requires.made_bound, a.log_room)))

pub returns-in-Some-clause-turned : goal.returns-in-Some-clause-turned
returns-in-Some-clause-turned c =
    let a = c.requires.run_asked in
    let n = part_length c.args.words.now.log.now c.args.made c.baby_switches-own.result (omega (arith, c.baby_switches-own.ensures, c.requires.made_bound, a.log_room)) in
    let t = turned_pairs (turning_asked a c.parts.ensures c.requires.made_bound) (powers_are a.written) c.in-Some.is c.width_of-width.ensures _ refl refl refl refl n c.join_pairs.ensures in
    record { plan_is = refl; cache_is = refl; turned = t.turned; logs = put_back c.args.words.now.log.now c.baby_switches-own.ensures t.logs t.len; out_is = refl; len = c.join_pairs.auto.nodes }
