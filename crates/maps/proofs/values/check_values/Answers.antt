-- `maps::values::check_values` meets its contract. Assumes nothing.
use Rattle.std.proofs.Common.{lt-ltb, le-ltb, eq-eqb, ne_eqb}
use Rattle.maps.specs.Laws.Skewing.{values_refused, many_words}
use Rattle.maps.proofs.values.check_values.Goals as goal
use Rattle.maps.proofs.values.check_values.Goals.{then-log_d-gt8-via-then-log_d-gt8, then-log_d-gt8-via-else-log_d-gt8+then-count-eq0, then-log_d-gt8-via-else-log_d-gt8+else-count-eq0+then-count-gt65536}

pub returns-then-log_d-gt8 : goal.returns-then-log_d-gt8
returns-then-log_d-gt8 c =
    elim c.then-log_d-gt8.branch [
      | then-log_d-gt8-via-then-log_d-gt8 w ↦ values_refused (rw (lt-ltb _ _ w.if-log_d-gt8.true))
      | then-log_d-gt8-via-else-log_d-gt8+then-count-eq0 w ↦ values_refused (rw (le-ltb _ _ w.if-log_d-gt8.false, eq-eqb _ _ w.if-count-eq0.true))
      | then-log_d-gt8-via-else-log_d-gt8+else-count-eq0+then-count-gt65536 w ↦ values_refused (rw (le-ltb _ _ w.if-log_d-gt8.false, ne_eqb _ _ w.if-count-eq0.false, lt-ltb _ _ (many_words c.args.log_d _ w.if-count-gt65536.true)))
    ]
