-- A program that is prepared once and run many times.
use Rattle.std.specs.Prelude.{ℕ, ◌+◌, ◌*◌, ◌-◌, ◌^◌, ◌≤◌, ◌<◌, ◌≡◌, List, length, get_or}
use Rattle.format.specs.Encode.{trailer_size}
use Rattle.basics.specs.Sizes.{map_words, bound_words}
use Rattle.labels.specs.Walks.{MapsLabels}
use Rattle.engine.specs.Work.{frame_words, thread_words, start_words, sizes_at, Starts}
use Rattle.atomic.specs.Threaded.{thread_frames}
use Rattle.concurrent.specs.Concurrent.{Begins, Accepted}

-- an accepted table, and room for what is made of it
pub record Preparing (t : List ℕ) (P M T : ℕ) (map bounds ss : List ℕ) : Type 0 where
  pub cells : ℕ
  pub accepted : Accepted t P M T cells
  pub map_long : length map ≡ map_words
  pub bounds_long : length bounds ≡ bound_words
  pub starts_long : length ss ≡ start_words

-- its label map and the first cells of its locations
pub record Prepares (t : List ℕ) (P M T : ℕ) (map bounds ss : List ℕ) : Type 0 where
  pub labels : ℕ
  pub cells : ℕ
  pub maps : MapsLabels t P map bounds labels
  pub starts : Starts (sizes_at t (length t - trailer_size - 2 * T - 2 * M) M) ss cells

-- no local of the first frame of the first n threads is set
pub record FramesClear (n : ℕ) (ls : List ℕ) : Type 0 where
  pub long : length ls ≡ thread_words
  pub zero : (k x : ℕ) → k < n → x < frame_words → get_or ls (frame_words * (thread_frames * k) + x) 0 ≡ 0

-- the first n cells hold number 0
pub record CellsClear (n : ℕ) (cs : List ℕ) : Type 0 where
  pub room : n ≤ length cs
  pub zero : (k : ℕ) → k < n → get_or cs k 0 ≡ 2 ^ 32

-- n threads and c cells, as a run begins
pub record Renews (t : List ℕ) (i n c : ℕ) (bounds labels depths ls cs : List ℕ) : Type 0 where
  pub begins : Begins t i n bounds labels depths
  pub frames : FramesClear n ls
  pub cells : CellsClear c cs
