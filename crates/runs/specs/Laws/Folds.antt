-- Laws of caches and nodes after switches made one after the other.
-- Assumes nothing.
use Rattle.std.specs.Prelude.{◌≡◌, ℕ, ◌+◌, List, [], ◌∷◌, ◌++◌}
use Rattle.std.proofs.Math.Path.{refl}
use Rattle.std.proofs.Common.{ap, ◌∙◌}
use Rattle.ring.specs.Vectors.{tabulate}
use Rattle.ring.specs.Laws.Vectors.{tabulate_more}
use Rattle.runs.specs.Switches.{Switch}
use Rattle.runs.specs.Machines.{State, cache_after, nodes_after, switched, switched_all}
use Rattle.runs.specs.Steps.Keyed.{cache_by, nodes_by}

module _ (m slots : ℕ) (input : List ℕ) where
  -- the machine's cache and nodes are those after its switches
  pub cache_by_lem : (st : State) (ws : List Switch) → (switched_all m slots input st ws).cache ≡ cache_by slots input st.cache ws
  unfolding switched
  cache_by_lem st [] = refl
  cache_by_lem st (w ∷ ws) = cache_by_lem (switched m slots input st w) ws

  pub nodes_by_lem : (st : State) (ws : List Switch) → (switched_all m slots input st ws).nodes ≡ nodes_by m slots st.nodes ws
  unfolding switched
  nodes_by_lem st [] = refl
  nodes_by_lem st (w ∷ ws) = nodes_by_lem (switched m slots input st w) ws

-- ---- caches

module _ (slots : ℕ) (input : List ℕ) where
  pub cache_append : (cache : List ℕ) (xs ys : List Switch) → cache_by slots input cache (xs ++ ys) ≡ cache_by slots input (cache_by slots input cache xs) ys
  cache_append cache [] ys = refl
  cache_append cache (x ∷ xs) ys = cache_append (cache_after slots input cache x) xs ys

  -- one switch more
  pub cache_more : (cache : List ℕ) (n : ℕ) (f : ℕ → Switch) → cache_by slots input cache (tabulate (n + 1) f) ≡ cache_after slots input (cache_by slots input cache (tabulate n f)) (f n)
  cache_more cache n f = ap (cache_by slots input cache) (tabulate_more n f) ∙ cache_append cache (tabulate n f) (f n ∷ [])

-- ---- nodes

module _ (m slots : ℕ) where
  pub nodes_append : (nodes : List ℕ) (xs ys : List Switch) → nodes_by m slots nodes (xs ++ ys) ≡ nodes_by m slots (nodes_by m slots nodes xs) ys
  nodes_append nodes [] ys = refl
  nodes_append nodes (x ∷ xs) ys = nodes_append (nodes_after m slots nodes x) xs ys

  -- one switch more
  pub nodes_more : (nodes : List ℕ) (n : ℕ) (f : ℕ → Switch) → nodes_by m slots nodes (tabulate (n + 1) f) ≡ nodes_after m slots (nodes_by m slots nodes (tabulate n f)) (f n)
  nodes_more nodes n f = ap (nodes_by m slots nodes) (tabulate_more n f) ∙ nodes_append nodes (tabulate n f) (f n ∷ [])
