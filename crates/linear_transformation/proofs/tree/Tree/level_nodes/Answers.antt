-- `linear_transformation::tree::Tree::level_nodes` meets its contract. Assumes nothing.
use Rattle.std.proofs.Common.{◌≡◌, ◌*◌, ◌-◌, ◌^◌, suc, ◌≤◌, ◌∙◌, ap, length, arith, rules}
use lib.Pow.{pow_mono}
use Rattle.ring.specs.Vectors.{tabulate}
use Rattle.linear_transformation.specs.Steps.Trees.{two_at}
use Rattle.linear_transformation.proofs.Heaps.{twos_are}
use Rattle.linear_transformation.proofs.tree.Tree.level_nodes.Goals as goal

pub returns : goal.returns
returns c =
    let t = c.args.self.now in
    let m = c.power-m.result in
    let size : length t.nodes.now ≡ 131072 = search rules in
    let l : 4 * m ≤ length t.nodes.now = omega (arith, size, c.power-m.ensures, t.low, pow_mono {i = t.bits - 1 - c.args.level} {j = 15} (omega (arith, t.low))) in
    let e : m ≡ 2 ^ (t.bits - suc c.args.level) = c.power-m.ensures ∙ ap (λ n. 2 ^ n) (omega arith) in
    c.as_chunks.ensures.front ∙ twos_are t.nodes.now m l ∙ ap (λ n. tabulate n (two_at t.nodes.now n)) e
