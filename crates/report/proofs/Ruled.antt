-- The instruction of a frame, way by way, as the code has it.
use Prim.Native.Nat.{ℕ, suc, ◌+◌, ◌*◌, ◌-◌, ◌≤◌, ◌<◌}
use native.Mathlib.Omega.{arith}
use mathlib.Core.Path.{◌≡◌, sym, ◌∙◌}
use mathlib.Core.List.{List}
use mathlib.Core.Bool.{Bool}
use lib.ListN.{length, get_or, set}
use Rattle.std.specs.Prelude.{Result, Ok, Err}
use Rattle.value.specs.declared.Reason.{Reason}
use Rattle.basics.specs.Places.{number_at}
use Rattle.format.specs.Syntax.{Block}
use Rattle.format.specs.Encode.{instr, record_size}
use Rattle.format.specs.Decode.{max_nesting}
use Rattle.format.proofs.Laws.Grammar.{BlockAt, block_deep}
use Rattle.labels.specs.Walks.{BlockIn}
use Rattle.engine.specs.Work.{frame_words, Clears}
use Rattle.decide.specs.declared.step.Step.{Step}
use Rattle.decide.specs.declared.step.Step.TheVariants as S
use Rattle.decide.specs.Decided.{Poised, Kept, Lies, DecidesAll}
use Rattle.atomic.specs.declared.block.Done.{Done}
use Rattle.atomic.specs.Doing.{Doing, DoesWhole, Carrying, Carries}
use Rattle.atomic.proofs.Inside.{plain_in}
use Rattle.report.specs.Rows.{most_rows, Testing, Tested, HasRecord}
use Rattle.report.specs.Stepping.{Stepping, Ready, Rules}
use Rattle.report.proofs.Turning.{doing_atomic, atomic_stays, atomic_went}
use Rattle.report.proofs.Taking.{turn_poised, turn_kept, turn_came, call_byte, call_room, call_above, turn_calls, turn_carrying}
use Rattle.report.proofs.Taking.{Straight, turn_went, turn_blocked}
use Rattle.report.proofs.Standing.{deeper, TestAt, loops, forks, body_here}
use Rattle.report.proofs.Ruling.{lower, lower_is, row_is, up, turning}
use Rattle.report.proofs.Ways.{goes_next, goes_test, goes_call, stays_there, test_here}

-- the uppermost row of a frame
abbrev row_of : ℕ → List ℕ → ℕ
row_of top heights = most_rows * top + get_or heights top 0 - 1

-- where it goes on
abbrev place_of : ℕ → List ℕ → List ℕ → ℕ
place_of top heights rows = get_or rows (row_of top heights) 0

module _ {t : List ℕ} {records : ℕ} {ss : List ℕ} {thread top : ℕ} {depths heights rows ends ls cs o : List ℕ} {n : ℕ} where
  -- behind the instruction
  next_is : (R : Ready t thread top depths heights rows ls n) (h : Stepping t records ss thread depths heights rows ends ls cs o n) → (up R h).next ≡ (place_of top heights rows) + length (instr (up R h).instr)
  next_is R h = rw (row_is R h) (up R h).here.stands.ends

  -- ---- [atomic]

  pub rule_doing : get_or t (place_of top heights rows) 0 ≡ 0x26 → Stepping t records ss thread depths heights rows ends ls cs o n → Ready t thread top depths heights rows ls n → Doing t thread 0 (frame_words * top) ss ((place_of top heights rows) + 1) max_nesting ls cs o n
  rule_doing e h R = doing_atomic e (turning R h)

  module _ {ls' cs' o' : List ℕ} {r : Result Done Reason} (e : get_or t (place_of top heights rows) 0 ≡ 0x26) (D : DoesWhole t thread 0 (frame_words * top) ss ((place_of top heights rows) + 1) max_nesting ls cs o n ls' cs' o' r) where
    pub rule_atomic : {d : Done} → r ≡ Ok d
        → Rules t records ss thread top depths heights rows ends ls cs o n depths heights (set rows (row_of top heights) d.next) ends ls' cs' o' (Ok d.events)
    unfolding turning
    rule_atomic q = record {
      rules = λ R. record { steps = λ h. let w = atomic_went e D (turning R h) q in goes_next R h w.0 w.1 };
    }

    pub rule_atomic_blocks : {why : Reason} → r ≡ Err why
        → Rules t records ss thread top depths heights rows ends ls cs o n depths heights rows ends ls' cs' o' (Err why)
    rule_atomic_blocks q = record { rules = λ R. record { steps = λ h. stays_there R h (atomic_stays e D (turning R h) q) } }

  module _ (y : get_or t (place_of top heights rows) 0 ≡ 0x26 → ⊥) where
    -- ---- what is decided

    pub rule_poised : Stepping t records ss thread depths heights rows ends ls cs o n → Ready t thread top depths heights rows ls n → Poised t ls (frame_words * top) (place_of top heights rows)
    rule_poised h R = turn_poised y (turning R h)

    pub rule_kept : Stepping t records ss thread depths heights rows ends ls cs o n → Ready t thread top depths heights rows ls n → Kept ss cs
    rule_kept h R = turn_kept y (turning R h)

    module _ {ls₁ : List ℕ} {u : Step} (E : DecidesAll t ls ls₁ (frame_words * top) (place_of top heights rows) (Lies ss cs) u) where
      -- it can be carried out
      pub rule_carrying : Stepping t records ss thread depths heights rows ends ls cs o n → Ready t thread top depths heights rows ls n → Carrying (frame_words * top) u ls₁ cs o n
      rule_carrying h R = turn_carrying y E (turning R h)

      module _ {ls' cs' o' : List ℕ} {r : Result Done Reason} (C : Carries thread 0 (frame_words * top) u ls₁ cs o n ls' cs' o' r) where
        -- [assign], [read], [write]
        pub rule_carried : {d : Done} → r ≡ Ok d
            → Rules t records ss thread top depths heights rows ends ls cs o n depths heights (set rows (row_of top heights) d.next) ends ls' cs' o' (Ok d.events)
        unfolding turning
        rule_carried q = record {
          rules = λ R. record { steps = λ h. let w = turn_went y E (turning R h) C q in goes_next R h w.0 (w.1 ∙ sym (next_is R h)) };
        }

        -- it blocks
        pub rule_blocked : {why : Reason} → Straight u → r ≡ Err why
            → Rules t records ss thread top depths heights rows ends ls cs o n depths heights rows ends ls' cs' o' (Err why)
        rule_blocked k q = record { rules = λ R. record { steps = λ h. stays_there R h (turn_blocked y E (turning R h) C k q) } }

      -- ---- [while : true], [while : false], [if : true], [if : false]

      pub rule_testing : {q : Bool} {j : ℕ} → u ≡ S.Test q j → Stepping t records ss thread depths heights rows ends ls cs o n → Ready t thread top depths heights rows ls n → Testing t (place_of top heights rows) j top rows heights ends
      unfolding turning
      rule_testing {j = j} e h R =
          let w = turn_came y E (turning R h) e in
          by (test_here R h w.1 w.2)
        where
          make : (b : Block ℕ) (l : ℕ) → BlockAt t j (max_nesting - suc (lower R h)) b l
              → ((get_or t (place_of top heights rows) 0 ≡ 0x23 → ⊥) → BlockIn t l max_nesting)
              → Testing t (place_of top heights rows) j top rows heights ends
          make b l w second = record {
            inside = R.inside;
            first = plain_in (deeper (omega arith) w);
            second = second;
            block = b;
            next = l;
            there = deeper (omega arith) w;
            known = h.present.known;
            short = R.short;
            some = omega (arith, R.high);
            few = omega (arith, block_deep w, lower_is R h);
            frame = omega (arith, R.room);
            rows_long = R.rows_long;
            heights_long = R.heights_long;
          }

          by : TestAt t (place_of top heights rows) (max_nesting - suc (lower R h)) j (up R h).instr (up R h).next → Testing t (place_of top heights rows) j top rows heights ends
          by (loops e b s mark body) = make b (up R h).next body (λ z. absurd (z mark))
          by (forks e b c l s mark first second) = make b l first (λ z. plain_in (deeper (omega arith) second))

      pub rule_test : {q : Bool} {j : ℕ} {heights' rows' ends' : List ℕ} → u ≡ S.Test q j → Tested t (place_of top heights rows) q j top rows heights rows' heights' ends'
          → Rules t records ss thread top depths heights rows ends ls cs o n depths heights' rows' ends' ls₁ cs o (Ok n)
      unfolding turning
      rule_test e T = record {
        rules = λ R. record { steps = λ h. let w = turn_came y E (turning R h) e in goes_test R h w.0 w.1 w.2 T };
      }

      -- ---- [call]

      module _ {q j : ℕ} (e : u ≡ S.Call q j) where
        pub rule_call_byte : Stepping t records ss thread depths heights rows ends ls cs o n → Ready t thread top depths heights rows ls n → (place_of top heights rows) + 3 < length t
        rule_call_byte h R = call_byte y E (turning R h) e

        pub rule_call_room : {b : ℕ} → b ≡ get_or t ((place_of top heights rows) + 3) 0 → Stepping t records ss thread depths heights rows ends ls cs o n → Ready t thread top depths heights rows ls n → frame_words * top + frame_words + b ≤ frame_words * top + frame_words + frame_words
        rule_call_room f h R = call_room y E (turning R h) e f

        pub rule_call_above : Stepping t records ss thread depths heights rows ends ls cs o n → Ready t thread top depths heights rows ls n → frame_words * top + frame_words + frame_words ≤ length ls₁
        rule_call_above h R = call_above y E (turning R h)

        module _ {b : ℕ} {ls₂ : List ℕ} (f : b ≡ get_or t ((place_of top heights rows) + 3) 0)
            (C : Clears ls₁ ls₂ (frame_words * top + frame_words + b) (frame_words * top + frame_words + frame_words)) where
          -- it has a record
          pub rule_record : Stepping t records ss thread depths heights rows ends ls cs o n → Ready t thread top depths heights rows ls n → HasRecord t records q
          unfolding turning
          rule_record h R =
              let w = turn_calls y E (turning R h) e f C in
              record { inside = (body_here h.loaded.same h.loaded.sound h.loaded.heads w.0.called.found).inside }

          pub rule_call : {k : ℕ} → k ≡ number_at 4 t (records + record_size * q + 2)
              → Rules t records ss thread top depths heights rows ends ls cs o n (set depths thread (get_or depths thread 0 + 1)) (set heights (top + 1) 1)
              (set (set rows (row_of top heights) j) (most_rows * (top + 1)) k) ends ls₂ cs o (Ok n)
          unfolding turning
          rule_call g = record {
            rules = λ R. record { steps = λ h. let w = turn_calls y E (turning R h) e f C in goes_call R h w.0 (w.1 ∙ sym (next_is R h)) g };
          }

-- one law for each way
pub ruleset rule_ways = (rule_doing, rule_poised, rule_kept, rule_testing, rule_test, rule_call)
