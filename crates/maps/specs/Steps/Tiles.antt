-- What the test of the tiling ensures.
-- Assumes nothing.
use Rattle.std.specs.Prelude.{◌≡◌, ℕ, ◌*◌, ◌^◌, ◌≤◌, None, Some, Result, Ok, Err}
use Rattle.std.specs.Int.{◌∣◌}
use Rattle.ring.specs.declared.refusal.Refusal.{Refusal}
use Rattle.ring.specs.Refusals.{first_refusal}
use Rattle.maps.specs.declared.side.Side.{Side}
use Rattle.maps.specs.Calls.{tile_refusals}

-- what slots that `count` matrices tile are
pub record Tiles (slots log_d count : ℕ) : Type 0 where
  pub log_low : log_d ≤ 8
  pub some : 1 ≤ count
  pub low : 1 ≤ slots
  pub high : slots ≤ 65536
  pub divides : count * (2 ^ log_d * 2 ^ log_d) ∣ slots

-- the same by the side d
pub record Tiling (slots d count : ℕ) : Type 0 where
  pub some : 1 ≤ count
  pub side_some : 1 ≤ d
  pub side_low : d ≤ 256
  pub slots_some : 1 ≤ slots
  pub small : slots ≤ 65536
  pub divide : count * (d * d) ∣ slots
  pub inside : count * (d * d) ≤ slots

-- an accepted tiling, and its side
pub record Tiled (slots log_d count : ℕ) (side : Side) : Type 0 where
  pub none : first_refusal (tile_refusals slots log_d count) ≡ None
  pub log_is : side.log_d ≡ log_d
  pub tiling : Tiling slots (2 ^ log_d) count

-- the test of the tiling
pub record TilesJudged (slots log_d count : ℕ) (r : Result Side Refusal) : Type 0 where
  pub refused : (x : Refusal) → r ≡ Err x → first_refusal (tile_refusals slots log_d count) ≡ Some x
  pub accepted : (side : Side) → r ≡ Ok side → Tiled slots log_d count side
