-- Rows: where blocks end, those that are used up, and where they go on after a test.
use Prim.Native.Nat.{ℕ, ◌+◌, ◌≤◌, ◌<◌}
use native.Mathlib.Omega.{arith}
use mathlib.Core.Path.{◌≡◌, ap, ◌∙◌}
use mathlib.Core.List.{List}
use lib.ListN.{get_or, set, length-set}
use lib.Seq.{get_or-set_same, get_or-set_other}
use lib.Dec.{eqb}
use borrow.Author.Tests.{eqb-true, eqb-false}
use Rattle.value.proofs.Laws.Tests.{by_test}
use Rattle.format.specs.Syntax.{Block}
use Rattle.format.specs.Labels.{tag}
use Rattle.format.specs.Decode.{max_nesting}
use Rattle.format.proofs.Laws.Grammar.{BlockAt}
use Rattle.labels.specs.Walks.{CountsBlock}
use Rattle.labels.specs.declared.count.Counted.{Counted}
use Rattle.atomic.specs.Laws.Standing.{tag_at}
use Rattle.report.specs.Rows.{Passing, Passes, Within}

-- ---- where a block ends

module _ {t ends : List ℕ} {i : ℕ} where
  -- it is found now
  pub passes_found : {c : Counted} → Passing t ends i → CountsBlock t i max_nesting c → Passes t i (set ends i c.next) c.next
  passes_found {c} h C = record {
    ends = λ b j w. there b j w;
    known = record {
      long = length-set ends i c.next ∙ h.known.long;
      each = λ k z b j w. by_test (eqb k i)
          (λ q.
          let same : k ≡ i = eqb-true k i q in
          let found : get_or (set ends i c.next) i 0 ≡ c.next =
          get_or-set_same ends i c.next 0 (omega (arith, h.known.long, h.block.inside, h.short))
          in
          ap (λ k. get_or (set ends i c.next) k 0) same ∙ found ∙ there b j (rw same at w))
          (λ q.
          let other : get_or (set ends i c.next) k 0 ≡ get_or ends k 0 = get_or-set_other ends i k c.next 0 (eqb-false k i q) in
          other ∙ h.known.each k (λ e. z (other ∙ e)) b j w);
    };
  }
    where
      there : (b : Block ℕ) (j : ℕ) → BlockAt t i max_nesting b j → c.next ≡ j
      there b j w = ap (λ (c : Counted). c.next) (C.gives (tag tt b) j (tag_at tt w))

-- ---- rows that are used up

-- those from n on are
pub record Leaving (t rows : List ℕ) (k h n : ℕ) : Type 0 where
  pub within : Within t rows k h
  pub less : n ≤ h
  pub used : (i : ℕ) → n ≤ i → i < h → get_or t (get_or rows (k + i) 0) 0 ≡ 0
