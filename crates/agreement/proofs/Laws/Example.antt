-- Demand 3 is not empty: it holds of the worked program B, under a schedule that loses an update, and of request 107's C in the shared mode.
use Rattle.std.specs.Prelude.{ℕ, ◌≤◌, refl, ◌≡◌, List, [], ◌∷◌, length}
use Rattle.std.proofs.Common.{lit≤, leb-true}
use Rattle.value.specs.declared.Reason.TheVariants.{FinishedThread}
use Rattle.value.proofs.Laws.Tests.{lt?}
use Rattle.value.proofs.Laws.Lists.{all?}
use Rattle.format.specs.Syntax.{concurrent, sequential}
use Rattle.format.specs.Encode.{table}
use Rattle.format.specs.Rules.{verdict, accepted, limits}
use Rattle.format.proofs.Laws.Bytes.{Bytes}
use Rattle.translation.specs.declared.Mode.TheVariants.{Own, Shared}
use Rattle.translation.specs.Placement.{largest, callers, by_rounds}
use Rattle.translation.specs.Translate.{translate, translate_in}
use Rattle.translation.proofs.Worked.{C}
use Rattle.semantics.specs.Threads as P
use Rattle.agreement.specs.Agreement.{AgreeIn, budget, Demand3, copy_run}
use Rattle.agreement.proofs.Worked.{B}
use Rattle.agreement.proofs.Reused.{eight}
use Rattle.agreement.proofs.Laws.Accepted.{demand3, same_reason}

-- thread 1 reads before thread 0 writes
abbrev lossy : List ℕ
lossy = 0 ∷ 0 ∷ 1 ∷ 1 ∷ 0 ∷ 1 ∷ 0 ∷ 1 ∷ []

-- B's table is bytes
bytes_b : Bytes (table concurrent B)
unfolding B
bytes_b = (all? (λ b. lt? b 256) (table concurrent B)).so refl

-- it is read as B
read_b : verdict concurrent (table concurrent B) ≡ accepted B
unfolding B
read_b = refl

-- and its copy's table is short enough
short_b : length (table sequential (translate B)) ≤ (limits sequential).bytes
unfolding B
short_b = leb-true _ _ refl

-- B and its copy agree
agrees_b : AgreeIn Own (table concurrent B) B lossy budget
unfolding B Demand3
agrees_b = demand3 Own (table concurrent B) B lossy budget bytes_b read_b short_b (lit≤ tt) ((all? (λ t. lt? t 2) lossy).so refl) (lit≤ tt)

-- so its copy takes the loop head's steps and two more: 198
steps_b : (copy_run (translate B) budget B lossy).steps ≡ 198
unfolding B
steps_b = agrees_b.closing.0

-- under the empty schedule, one more: 9
empty_b : (copy_run (translate B) budget B []).steps ≡ 9
unfolding B Demand3
empty_b = (demand3 Own (table concurrent B) B [] budget bytes_b read_b short_b (lit≤ tt) tt (lit≤ tt)).closing.0

-- thread 0 is chosen once more after it is finished
abbrev early : List ℕ
early = 0 ∷ 0 ∷ 0 ∷ 0 ∷ 0 ∷ 1 ∷ []

-- the program is blocked for that, and so is its copy
blocked_b : (copy_run (translate B) budget B early).how ≡ P.blocked FinishedThread
unfolding B Demand3
blocked_b =
    (same_reason (demand3 Own (table concurrent B) B early budget bytes_b read_b short_b (lit≤ tt) ((all? (λ t. lt? t 2) early).so refl) (lit≤ tt))
    FinishedThread).0 refl

-- ---- in the shared mode

-- C's table is bytes
bytes_c : Bytes (table concurrent C)
bytes_c = (all? (λ b. lt? b 256) (table concurrent C)).so refl

-- C and its copy in the shared mode agree
agrees_c : AgreeIn Shared (table concurrent C) C eight budget
unfolding Demand3 by_rounds largest callers
agrees_c = demand3 Shared (table concurrent C) C eight budget bytes_c refl (leb-true _ _ refl) (lit≤ tt) ((all? (λ t. lt? t 1) eight).so refl) (lit≤ tt)

-- so that copy takes 205 steps
steps_c : (copy_run (translate_in Shared C) budget C eight).steps ≡ 205
steps_c = agrees_c.closing.0
