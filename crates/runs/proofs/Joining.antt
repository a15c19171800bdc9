-- The giant switches: the loop over the giants, and the walk over the places of all levels.
-- Assumes nothing.
use Rattle.std.proofs.Common.{◌≡◌, ℕ, ◌+◌, ◌*◌, ◌/◌, ◌%◌, ◌<◌, ◌≤◌, true, false, List, length, get_or, set, sym, refl, ap, ◌∙◌, ⊎_elim, arith}
use Rattle.std.proofs.Common.{◌-◌, take, drop, get_or-take, get_or-drop, length-take, length-drop}
use Rattle.ring.specs.Slots.{modulus}
use Rattle.ring.specs.Searches.{below}
use Rattle.ring.specs.Vectors.{tabulate, Filling}
use Rattle.ring.specs.Laws.Below.{below_no, length_below_yes, below_mono, below_at}
use Rattle.ring.specs.Laws.Lists.{each_at}
use Rattle.ring.specs.Laws.Searches.{lt_or_ge}
use Rattle.runs.specs.Switches.{Switch, rotation_of}
use Rattle.runs.specs.Machines.{nodes_after, put_vector, turned, vector_at}
use Rattle.runs.specs.Laws.Places.{inside_first, length_put_vector}
use Rattle.runs.specs.Laws.Folds.{nodes_more}
use Rattle.ring.specs.Laws.Rotations.{length_rotated}
use Rattle.runs.specs.Steps.Keyed.{nodes_by, TurnAsked}
use Rattle.runs.specs.declared.tree.Tree.{Tree}
use Rattle.runs.specs.Steps.Giants.{turn_at, TurnsAsked, leaves_of, starts_at, switch_at, starts, join_at, GiantsTurned, PairJoined, PairsAsked, PairsJoined}
use Rattle.ring.specs.Laws.Vectors.{is_tabulate, filling_none, filling_more, filling_done}

-- ---- switches, one after the other

-- the first p switches f 0 .. are made
pub record Switching (f : ℕ → Switch) (slots n : ℕ) (old new : List ℕ) (p : ℕ) : Type 0 where
  pub nodes : new ≡ nodes_by modulus slots old (tabulate p f)
  pub len : length new ≡ length old
  pub room : p ≤ n

pub switching_none : (f : ℕ → Switch) (slots n : ℕ) (old : List ℕ) → Switching f slots n old old 0
switching_none f slots n old = record { nodes = refl; len = refl; room = omega arith }

pub switching_more : {f : ℕ → Switch} {slots n p : ℕ} {old mid new : List ℕ} → Switching f slots n old mid p → p < n
    → new ≡ nodes_after modulus slots mid (f p) → length new ≡ length mid → Switching f slots n old new (p + 1)
switching_more {f} {slots} {n} {p} {old} s l e k =
    record {
      nodes = e ∙ rw s.nodes (sym (nodes_more modulus slots old p f));
      len = k ∙ s.len;
      room = omega arith;
    }

-- ---- per rotation

module _ {gs : List ℕ} {start n slots : ℕ} {nodes : List ℕ} (a : TurnsAsked gs start n slots nodes) where
  abbrev switch : ℕ → Switch
  switch = turn_at gs start

  -- the giants from `start` on
  abbrev turns : List ℕ
  turns = take (start + n - start) (drop start gs)

  pub turns_length : length turns ≡ n
  turns_length = simp (length-take, length-drop) (omega (arith, a.inside))

  turned_giant : (p : ℕ) → p < n → get_or turns p 0 ≡ get_or gs (start + p) 0
  turned_giant p l = let q : p < start + n - start = omega arith in get_or-take (start + n - start) (drop start gs) p 0 q ∙ get_or-drop start gs p 0

  -- they are the rotations
  turns_logged : {log : List ℕ} → log ≡ turns → log ≡ tabulate n (λ p. rotation_of (switch p))
  turns_logged e = e ∙ is_tabulate n (λ p. get_or gs (start + p) 0) 0 turns turns_length turned_giant

  module _ {new : List ℕ} {p : ℕ} (s : Switching switch slots n nodes new p) (l : p < n) where
    pub turn_room : (start + p) * slots + slots ≤ length new
    turn_room = omega (arith, s.len, (inside_first slots nodes (length gs) (start + p) a.room (omega (arith, a.inside))).room)

    pub turn_asked : TurnAsked slots new (start + p) (get_or turns p 0)
    turn_asked = record { low = rw (turned_giant p l) (each_at (λ g. g < slots) gs 0 a.low (start + p) (omega (arith, a.inside))); room = turn_room }

    pub turns_more : {mid : List ℕ} → mid ≡ put_vector slots new (start + p) (turned slots (vector_at slots new (start + p)) (get_or turns p 0)) → Switching switch slots n nodes mid (p + 1)
    turns_more q =
        switching_more s l (q ∙ rw (turned_giant p l))
        (ap length q ∙ length_put_vector slots (turned slots (vector_at slots new (start + p)) (get_or turns p 0)) (length_rotated _ _ slots) (record { room = turn_room }))

  -- all are made
  pub turns_done : {new log : List ℕ} {p : ℕ} → Switching switch slots n nodes new p → n ≤ p → log ≡ turns → GiantsTurned gs start n slots nodes new log
  turns_done {p} s l e = record { turned = s.nodes ∙ (let q : p ≡ n = omega (arith, s.room) in ap (λ (x : ℕ). nodes_by modulus slots nodes (tabulate x switch)) q); logs = turns_logged e }

-- ---- the pairs, one after the other

-- the walk is at a place of the row, behind the first q starts
pub record Walking (t : Tree) (n : ℕ) (old new log log' : List ℕ) (q at : ℕ) : Type 0 where
  pub switching : Switching (join_at t) t.slots n old new q
  pub logs : Filling (λ k. rotation_of (join_at t k)) log log' q
  pub count : q ≡ length (below (starts_at (leaves_of t) (length t.giants.now)) at)
  pub inside : at ≤ t.bits * length t.giants.now

module _ {t : Tree} {n k : ℕ} {old log : List ℕ} (a : PairsAsked t n k) where
  pub walking_none : Walking t n old old log log 0 0
  unfolding below
  walking_none = record { switching = switching_none (join_at t) t.slots n old; logs = filling_none _ _; count = refl; inside = omega arith }

  module _ {new log' : List ℕ} {q at : ℕ} (w : Walking t n old new log log' q at) (l : q < n) where
    -- not all are passed
    pub at_low : at < t.bits * length t.giants.now
    at_low =
        ⊎_elim (λ (m : at < t.bits * length t.giants.now). m)
        (λ (m : t.bits * length t.giants.now ≤ at). absurd (omega (arith, w.count, a.few, below_mono (starts_at (leaves_of t) (length t.giants.now)) (t.bits * length t.giants.now) at m)))
        (lt_or_ge at (t.bits * length t.giants.now))

    pub walking_yes : {mid : List ℕ} {r : ℕ} → q < length log' → starts_at (leaves_of t) (length t.giants.now) at ≡ true → PairJoined t (at / length t.giants.now) (at % length t.giants.now) new mid r
        → Walking t n old mid log (set log' q r) (q + 1) (at + 1)
    walking_yes {mid} {r} room y j =
        let leaves = leaves_of t in
        let here : get_or (starts leaves (length t.giants.now) t.bits) q 0 ≡ at = ap (λ (x : ℕ). get_or (starts leaves (length t.giants.now) t.bits) x 0) w.count ∙ below_at (starts_at leaves (length t.giants.now)) (t.bits * length t.giants.now) at 0 at_low y in
        let is : join_at t q ≡ switch_at t.slots t.width t.bits leaves (length t.giants.now) at = ap (switch_at t.slots t.width t.bits leaves (length t.giants.now)) here in
        record {
          switching = switching_more w.switching l (j.nodes ∙ ap (nodes_after modulus t.slots new) (sym is)) j.len;
          logs = filling_more w.logs room (j.turn ∙ ap rotation_of (sym is));
          count = omega (arith, w.count, length_below_yes (starts_at leaves (length t.giants.now)) at y);
          inside = omega (arith, at_low);
        }

    pub walking_no : starts_at (leaves_of t) (length t.giants.now) at ≡ false → Walking t n old new log log' q (at + 1)
    walking_no y = record { switching = w.switching; logs = w.logs; count = w.count ∙ ap length (sym (below_no (starts_at (leaves_of t) (length t.giants.now)) at y)); inside = omega (arith, at_low) }

  -- all are joined
  pub walking_done : {new log' : List ℕ} {q at : ℕ} → Walking t (length log) old new log log' q at → length log' ≤ q → PairsJoined t (length log) old new log'
  walking_done {q = q} w l =
      record {
        joined_all = w.switching.nodes ∙ (let e : q ≡ length log = omega (arith, w.logs.len, w.logs.room) in ap (λ (x : ℕ). nodes_by modulus t.slots old (tabulate x (join_at t))) e);
        logs = filling_done w.logs l;
      }
