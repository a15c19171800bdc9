-- `runs::tree::Tree::join_pair` meets its contract. Assumes nothing.
use Rattle.std.proofs.Common.{sym, refl, ◌∙◌}
use Rattle.runs.proofs.Pairing.{even_some, even_asked, alone_asked, both_asked}
use Rattle.runs.proofs.tree.Tree.join_pair.Goals as goal

pub overflow_sub-place : goal.overflow_sub-place
overflow_sub-place c = even_some _ _ _ (sym c.has_even.ensures ∙ c.if-has_even.true)

pub place_of-even-requires : goal.place_of-even-requires
place_of-even-requires c = even_asked c.requires c.node_at.ensures

pub add_turned-requires : goal.add_turned-requires
add_turned-requires c = both_asked c.requires _ refl c.turn_of-turn.ensures (sym c.has_even.ensures ∙ c.if-has_even.true) c.node_at.ensures c.place_of-even.ensures

pub rotate_at-requires : goal.rotate_at-requires
rotate_at-requires c = alone_asked c.requires _ refl c.turn_of-turn.ensures
