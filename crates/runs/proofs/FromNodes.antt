-- The nodes of a plan's giants: what the making of them asks, and that the words made are the plan's nodes.
-- Assumes nothing.
use Rattle.std.proofs.Common.{◌≡◌, ℕ, zero, suc, ◌+◌, ◌-◌, ◌*◌, ◌<◌, ◌≤◌, false, List, [], ◌∷◌, length, get_or, sym, refl, ap, ◌∙◌, arith}
use Rattle.ring.specs.Slots.{modulus}
use Rattle.ring.specs.Lists.{join}
use Rattle.ring.specs.Refusals.{Range}
use Rattle.ring.specs.Vectors.{tabulate, in_front}
use Rattle.ring.specs.Laws.Lists.{each_at}
use Rattle.ring.specs.Laws.Vectors.{length_tabulate, get_or_tabulate, tabulate_get_or, tabulate_cong}
use Rattle.diagonals.specs.Maps.{offsets_of, view, WellFormed}
use Rattle.linear_transformation.specs.declared.LinearTransformationStrategy.{LinearTransformationStrategy}
use Rattle.linear_transformation.specs.Strategies.{width_outside}
use Rattle.linear_transformation.specs.Plans.{width_of, plan_pairs}
use Rattle.linear_transformation.specs.Schedules.{plan_babies, plan_giants}
use Rattle.linear_transformation.specs.Laws.Plans.{width_positive, giants_below}
use Rattle.runs.specs.Machines.{node_at, node_words}
use Rattle.runs.specs.Laws.NodeRuns.{first_more, cut_first, cut_size, run_inside, run_above, run_among, node_run_lem}
use Rattle.runs.specs.Steps.Keyed.{first_diagonal, size_of}
use Rattle.runs.specs.Steps.Surveys.{cut_at}
use Rattle.runs.specs.Steps.Nodes.{GiantRun, first_in, many_in, NodesAsked, NodesMade, node_slot, first_nodes}
use Rattle.runs.proofs.FromBabies.{babies_of_lem}

-- lists joined over two tables, equal place by place
join_places : (n : ℕ) (f g : ℕ → List ℕ) (a b : ℕ → ℕ) → ((p : ℕ) → p < n → f (a p) ≡ g (b p)) → join f (tabulate n a) ≡ join g (tabulate n b)
join_places zero f g a b h = refl
join_places (suc n) f g a b h = cc (h 0 (omega arith), join_places n f g (λ i. a (suc i)) (λ i. b (suc i)) (λ i l. h (suc i) (omega arith)))

module _
    {slots count : ℕ}
    {pairs values : List ℕ}
    (formed : WellFormed slots count pairs values)
    (r : Range slots)
    (strategy : LinearTransformationStrategy)
    (w : width_outside strategy ≡ false)
    (input : List ℕ)
    (len : length input ≡ slots)
  where
    abbrev ks : List ℕ
    ks = offsets_of (view count pairs values)

    abbrev width : ℕ
    width = width_of strategy

    abbrev babies : List ℕ
    babies = plan_babies slots strategy ks

    abbrev giants : List ℕ
    giants = plan_giants slots strategy ks

    abbrev words : List ℕ
    words = join (λ c. c.0 ∷ c.1 ∷ []) (plan_pairs slots width ks)

    -- the cuts of its giants
    abbrev cuts : List (List ℕ)
    cuts = tabulate (length giants) (cut_at words)

    first_cut : (p : ℕ) → p < length giants → first_in cuts p ≡ first_diagonal width ks giants p
    first_cut p l = ap (λ (x : List ℕ). get_or x 0 0) (get_or_tabulate (length giants) (cut_at words) p [] l) ∙ cut_first slots width ks p l

    many_cut : (p : ℕ) → p < length giants → many_in cuts p ≡ size_of width ks giants p
    many_cut p l = ap (λ (x : List ℕ). get_or x 1 0) (get_or_tabulate (length giants) (cut_at words) p [] l) ∙ cut_size slots width ks p l

    wide : 0 < width_of strategy
    wide = width_positive strategy w

    -- the diagonals of the p-th giant
    giant_run : (p : ℕ) → p < length giants → GiantRun babies (get_or giants p 0) (first_diagonal width ks giants p) (size_of width ks giants p) count pairs input
    giant_run p l =
        record {
          inside = run_inside formed r.low strategy wide p l;
          low = rw len (each_at (λ g. g < slots) giants 0 (giants_below slots width ks) p l);
          above = λ i h. run_above formed r.low strategy wide p i l h;
          has = λ i h. run_among formed r.low strategy wide p i l h r.high;
        }

    cut_next : (p : ℕ) → p + 1 < length giants → first_in cuts (p + 1) ≡ first_in cuts p + many_in cuts p
    cut_next p l =
        let h : p < length giants = omega arith in
        first_cut (p + 1) l
        ∙ first_more width ks giants p h
        ∙ sym (rw (first_cut p h, many_cut p h))

    module _ {cache nodes : List ℕ} (cached : (length (plan_babies slots strategy (offsets_of (view count pairs values))) - 1) * slots ≤ length cache) (room : length (plan_giants slots strategy (offsets_of (view count pairs values))) * slots ≤ length nodes) where
      plan_asked : NodesAsked babies giants cuts count pairs input cache nodes
      plan_asked =
          record {
            babies = babies_of_lem slots strategy ks r len cached;
            sizes = length_tabulate (length giants) (cut_at words);
            runs = λ p l. rw (first_cut p l, many_cut p l) (giant_run p l);
            first = λ l. first_cut 0 l;
            next = cut_next;
            room = rw len room;
          }

      pub nodes_of : {bs gs : List ℕ} {cuts' : List (List ℕ)} → bs ≡ plan_babies slots strategy (offsets_of (view count pairs values)) → gs ≡ plan_giants slots strategy (offsets_of (view count pairs values)) → cuts' ≡ tabulate (length (plan_giants slots strategy (offsets_of (view count pairs values)))) (cut_at (join (λ c. c.0 ∷ c.1 ∷ []) (plan_pairs slots (width_of strategy) (offsets_of (view count pairs values)))))
          → NodesAsked bs gs cuts' count pairs input cache nodes
      nodes_of b g c = rw (b, g, c) plan_asked

    -- the p-th vector is the node of the p-th giant
    slot_is : (cache : List ℕ) (p : ℕ) → p < length giants → (s : ℕ) → node_slot babies giants cuts pairs values input cache p s ≡ node_at modulus slots strategy (view count pairs values) input cache (get_or giants p 0) s
    slot_is cache p l s = rw (first_cut p l, many_cut p l, len) (sym (node_run_lem formed r.low strategy wide modulus input cache p s l))

    plan_words_lem : (cache : List ℕ) → first_nodes babies giants cuts pairs values input cache (length giants) ≡ node_words modulus slots strategy (view count pairs values) input cache
    unfolding node_words
    plan_words_lem cache =
        let at : ℕ → List ℕ = λ g. tabulate slots (node_at modulus slots strategy (view count pairs values) input cache g) in
        let made : ℕ → List ℕ = λ p. tabulate (length input) (node_slot babies giants cuts pairs values input cache p) in
        join_places (length giants) made at (λ p. p) (λ p. get_or giants p 0)
        (λ p l.
        ap (λ (n : ℕ). tabulate n (node_slot babies giants cuts pairs values input cache p)) len
        ∙ tabulate_cong slots (node_slot babies giants cuts pairs values input cache p) (node_at modulus slots strategy (view count pairs values) input cache (get_or giants p 0)) (λ s h. slot_is cache p l s))
        ∙ sym (ap (join at) (tabulate_get_or giants 0))

    module _ {bs gs : List ℕ} {cuts' : List (List ℕ)} (b : bs ≡ plan_babies slots strategy (offsets_of (view count pairs values))) (g : gs ≡ plan_giants slots strategy (offsets_of (view count pairs values))) (c : cuts' ≡ tabulate (length (plan_giants slots strategy (offsets_of (view count pairs values)))) (cut_at (join (λ c. c.0 ∷ c.1 ∷ []) (plan_pairs slots (width_of strategy) (offsets_of (view count pairs values)))))) (cache : List ℕ) where
      pub words_of : first_nodes bs gs cuts' pairs values input cache (length gs) ≡ node_words modulus slots strategy (view count pairs values) input cache
      words_of = rw (b, g, c) (plan_words_lem cache)

      -- so the nodes made are those of the plan
      pub nodes_made : {old new : List ℕ} → NodesMade bs gs cuts' pairs values input cache old new → new ≡ in_front (node_words modulus slots strategy (view count pairs values) input cache) old
      nodes_made {old} m = m.nodes ∙ ap (λ (t : List ℕ). in_front t old) words_of
