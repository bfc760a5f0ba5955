-- One law for each way over a page.
use Rattle.std.proofs.Common.{◌≡◌, ℕ, ◌+◌, ◌<◌, List, [], ◌∷◌, ◌++◌, length, get_or, take, sym, refl, ◌∙◌}
use Rattle.std.proofs.Math.Seq.{length-sets}
use Rattle.std.proofs.lemmas.List.{take_more}
use Rattle.std.proofs.lemmas.List.Edits.{sets}
use Rattle.writer.specs.declared.page.Page.{Page}
use Rattle.writer.specs.Laws.Pages.{Puts, Onto}
use Rattle.writer.proofs.Puts.{put_none, put_then}

-- ---- parts one after the other

-- nothing
pub puts_none : {a : Page} → Puts a [] a
puts_none = record { puts = put_none; same = refl }

-- one part, then another
pub puts_then : {a b c : Page} (x y : List ℕ) → Puts a x b → Puts b y c → Puts a (x ++ y) c
puts_then x y P Q = record { puts = put_then x y P.puts Q.puts; same = Q.same ∙ P.same }

-- a byte, then others
pub puts_cons : {a b c : Page} {x : ℕ} {y : List ℕ} → Puts a (x ∷ []) b → Puts b y c → Puts a (x ∷ y) c
puts_cons {x = x} {y = y} P Q = puts_then (x ∷ []) y P Q

-- the same bytes
pub puts_same : {a b : Page} {x y : List ℕ} → x ≡ y → Puts a x b → Puts a y b
puts_same e P = rw (← e) P

-- one more of several bytes
pub puts_next : {a b c : Page} (bs : List ℕ) (i : ℕ) → Puts a (take i bs) b → i < length bs → Puts b (get_or bs i 0 ∷ []) c
    → Puts a (take (i + 1) bs) c
puts_next bs i P less Q = puts_same (sym (take_more bs i 0 less)) (puts_then (take i bs) (get_or bs i 0 ∷ []) P Q)

-- ---- what remains

-- at the start, all of it
pub onto_start : {a : Page} {all : List ℕ} → Onto a all a all
onto_start = record { then = λ P. P }

-- a part more
pub onto_next : {a b c : Page} {all : List ℕ} (x rest : List ℕ) → Onto a all b (x ++ rest) → Puts b x c → Onto a all c rest
onto_next x rest O P = record { then = λ Q. O.then (puts_then x rest P Q) }

-- at the end, nothing
pub onto_end : {a b : Page} {all : List ℕ} → Onto a all b [] → Puts a all b
onto_end O = O.then puts_none

-- Where something remains to be written, it could be: so the buffer is the one that was lent, and as long as it was.
abbrev onward : Page → List ℕ → Page
onward b rest = record b { out = record b.out { now = sets b.out.now b.at rest }; at = b.at + length rest }

on : (b : Page) (rest : List ℕ) → Puts b rest (onward b rest)
on b rest = record {
  puts = record { wrote = λ _. refl; next = λ _. refl; far = λ l. l; kept = length-sets b.out.now b.at rest };
  same = refl;
}

pub onto_keeps : {a b : Page} {all rest : List ℕ} → Onto a all b rest → length b.out.now ≡ length a.out.now
onto_keeps {b = b} {rest = rest} O = sym (on b rest).puts.kept ∙ (O.then (on b rest)).puts.kept

pub onto_lent : {a b : Page} {all rest : List ℕ} → Onto a all b rest → b.out.ghost_name ≡ a.out.ghost_name
onto_lent {b = b} {rest = rest} O = (O.then (on b rest)).same
