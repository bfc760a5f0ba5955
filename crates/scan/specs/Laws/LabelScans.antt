-- Rule 6, as the code counts: labels token by token.
use Rattle.std.specs.Prelude.{ℕ, zero, suc, ◌+◌, ◌-◌, ◌≤◌, ◌<◌, ◌≡◌, refl, List, [], ◌∷◌, ◌++◌, length}
use Rattle.std.proofs.Common.{arith, ap, subst, ◌∙◌, append_assoc}
use Rattle.value.proofs.Laws.Lists.{Each}
use Rattle.value.specs.declared.Value.TheVariants.{Whole, Location, Truth}
use Rattle.scan.specs.declared.tokens.Token.{Token}
use Rattle.scan.specs.declared.tokens.Token.TheVariants as T
use Rattle.format.specs.Syntax.{Expr, constant, local, one, two, Instr, assign, write, read, while, if, call, atomic, select}
use Rattle.format.specs.Syntax.{Block, end, step, Proc, Program, Plain}
use Rattle.format.specs.Encode.{each, block, bodies_of}
use Rattle.format.specs.Labels.{count, count_i, counts}
use Rattle.scan.specs.Tokens.{token_at, size_at, tokens_e, tokens_es, tokens_i, tokens}
use Rattle.format.proofs.Laws.Fits.{BlockFits}
use Rattle.format.proofs.Laws.Stands.{Stands, front, back}
use Rattle.scan.specs.Laws.Tokens.{Row, done, row, row_append, size_pos, token_falls}
use Rattle.scan.specs.Laws.Scans.{Scans, From, from_start, from_next, from_end}
use Rattle.format.proofs.Laws.TablePlaces.{records_at, all_bodies}
use Rattle.format.specs.Decode.{max_nesting}
use Rattle.scan.specs.Laws.Laid.{Laid}

-- ---- what the code counts

-- does a token begin an instruction
unfoldable pub instruction : Token → ℕ
instruction T.Stop = 0
instruction T.Plain = 0
instruction (T.Location l) = 0
instruction (T.Local x) = 0
instruction (T.Assign x) = 1
instruction (T.Write y) = 1
instruction (T.Read x y) = 1
instruction T.While = 1
instruction T.If = 1
instruction (T.Call m n) = 1
instruction T.Atomic = 1
instruction (T.Select a b) = 1

-- its labels, where n blocks are still to end before an atomic block does
unfoldable pub own_labels : ℕ → Token → ℕ
own_labels zero k = instruction k
own_labels (suc n) k = 0

-- does an atomic block begin
unfoldable pub entered : Token → ℕ
entered T.Stop = 0
entered T.Plain = 0
entered (T.Location l) = 0
entered (T.Local x) = 0
entered (T.Assign x) = 0
entered (T.Write y) = 0
entered (T.Read x y) = 0
entered T.While = 0
entered T.If = 0
entered (T.Call m n) = 0
entered T.Atomic = 1
entered (T.Select a b) = 0

-- the blocks that are still to end behind a token, where n were, or n and one more
unfoldable pub further : ℕ → Token → ℕ
further n T.Stop = n
further n T.Plain = suc n
further n (T.Location l) = suc n
further n (T.Local x) = suc n
further n (T.Assign x) = suc n
further n (T.Write y) = suc n
further n (T.Read x y) = suc n
further n T.While = suc (suc n)
further n T.If = suc (suc (suc n))
further n (T.Call m k) = suc n
further n T.Atomic = suc (suc n)
further n (T.Select a b) = suc n

-- behind any token
unfoldable pub blocks_open : ℕ → Token → ℕ
blocks_open zero k = entered k
blocks_open (suc n) k = further n k

-- the labels of tokens
unfoldable pub labels_in : ℕ → List Token → ℕ
labels_in n [] = 0
labels_in n (k ∷ ks) = own_labels n k + labels_in (blocks_open n k) ks

-- and those counted so far
unfoldable pub tally : ℕ → ℕ → List Token → ℕ
tally c n ks = c + labels_in n ks

-- r is the number of labels of a table's program
pub record CountsLabels (t : List ℕ) (P R r : ℕ) : Type 0 where
  pub gives : (p : Program Plain) → Laid t P R p → r ≡ counts p.procs

-- ---- the labels of a block

-- a token that counts nothing and opens nothing
record Quiet (k : Token) : Type 0 where
  own : (n : ℕ) → own_labels n k ≡ 0
  same : (n : ℕ) → blocks_open n k ≡ n

-- by the tables
quiet : (k : Token) → instruction k ≡ 0 → entered k ≡ 0 → ((n : ℕ) → further n k ≡ suc n) → Quiet k
unfolding own_labels blocks_open
quiet k e f g = record { own = own; same = same }
  where
    own : (n : ℕ) → own_labels n k ≡ 0
    own zero = e
    own (suc n) = refl

    same : (n : ℕ) → blocks_open n k ≡ n
    same zero = f
    same (suc n) = g n

-- constants and operators
quiet_plain : Quiet T.Plain
unfolding instruction entered further
quiet_plain = quiet T.Plain refl refl (λ n. refl)

-- locations
quiet_location : (l : ℕ) → Quiet (T.Location l)
unfolding instruction entered further
quiet_location l = quiet (T.Location l) refl refl (λ n. refl)

-- locals
quiet_local : (x : ℕ) → Quiet (T.Local x)
unfolding instruction entered further
quiet_local x = quiet (T.Local x) refl refl (λ n. refl)

-- one token after another
skip : {k : Token} → Quiet k → (n : ℕ) (ls : List Token) → labels_in n (k ∷ ls) ≡ labels_in n ls
unfolding labels_in
skip q n ls = rw (q.own n, q.same n) (omega arith)

-- an expression
skip_e : (n : ℕ) (e : Expr) (ls : List Token) → labels_in n (tokens_e e ++ ls) ≡ labels_in n ls
skip_e n (constant (Whole z)) ls = skip quiet_plain n ls
skip_e n (constant (Location l)) ls = skip (quiet_location l) n ls
skip_e n (constant (Truth b)) ls = skip quiet_plain n ls
skip_e n (local x) ls = skip (quiet_local x) n ls
skip_e n (one o a) ls = skip quiet_plain n (tokens_e a ++ ls) ∙ skip_e n a ls
skip_e n (two o a b) ls =
    skip quiet_plain n ((tokens_e a ++ tokens_e b) ++ ls)
    ∙ rw (append_assoc (tokens_e a) (tokens_e b) ls) (skip_e n a (tokens_e b ++ ls) ∙ skip_e n b ls)

-- several
skip_es : (n : ℕ) (es : List Expr) (ls : List Token) → labels_in n (tokens_es es ++ ls) ≡ labels_in n ls
skip_es n [] ls = refl
skip_es n (e ∷ es) ls = rw (append_assoc (tokens_e e) (tokens_es es) ls) (skip_e n e (tokens_es es ++ ls) ∙ skip_es n es ls)

-- inside an atomic block a token has no label
within : (n : ℕ) (k : Token) (ls : List Token) → labels_in (suc n) (k ∷ ls) ≡ labels_in (further n k) ls
unfolding labels_in own_labels blocks_open instruction entered further
within n k ls = omega arith

-- two expressions
skip₂ : (n : ℕ) (a b : Expr) (ls : List Token) → labels_in n ((tokens_e a ++ tokens_e b) ++ ls) ≡ labels_in n ls
skip₂ n a b ls = rw (append_assoc (tokens_e a) (tokens_e b) ls) (skip_e n a (tokens_e b ++ ls) ∙ skip_e n b ls)

mutual
  unfolding further

  -- an instruction there leaves the blocks as they were
  within_i : (n : ℕ) (i : Instr Plain) (ls : List Token) → labels_in (suc n) (tokens_i i ++ ls) ≡ labels_in (suc n) ls
  within_i n (assign x e) ls = within n (T.Assign x) (tokens_e e ++ ls) ∙ skip_e (suc n) e ls
  within_i n (write y o e) ls = within n (T.Write y) ((tokens_e o ++ tokens_e e) ++ ls) ∙ skip₂ (suc n) o e ls
  within_i n (read x y o) ls = within n (T.Read x y) (tokens_e o ++ ls) ∙ skip_e (suc n) o ls
  within_i n (while e b) ls =
      within n T.While ((tokens_e e ++ tokens b) ++ ls)
      ∙ rw (append_assoc (tokens_e e) (tokens b) ls) (skip_e (suc (suc n)) e (tokens b ++ ls) ∙ within_b (suc n) b ls)
  within_i n (if e b c) ls =
      within n T.If ((tokens_e e ++ (tokens b ++ tokens c)) ++ ls)
      ∙ rw (append_assoc (tokens_e e) (tokens b ++ tokens c) ls, append_assoc (tokens b) (tokens c) ls)
      (skip_e (suc (suc (suc n))) e (tokens b ++ (tokens c ++ ls)) ∙ within_b (suc (suc n)) b (tokens c ++ ls) ∙ within_b (suc n) c ls)
  within_i n (call m es) ls = within n (T.Call m (length es)) (tokens_es es ++ ls) ∙ skip_es (suc n) es ls
  within_i n (atomic b) ls = within n T.Atomic (tokens b ++ ls) ∙ within_b (suc n) b ls
  within_i n (select a b) ls = within n (T.Select a b) ls

  -- a block ends one of them
  within_b : (n : ℕ) (b : Block Plain) (ls : List Token) → labels_in (suc n) (tokens b ++ ls) ≡ labels_in n ls
  within_b n end ls = within n T.Stop ls
  within_b n (step a i b) ls = rw (append_assoc (tokens_i i) (tokens b) ls) (within_i n i (tokens b ++ ls) ∙ within_b n b ls)

mutual
  unfolding labels_in own_labels blocks_open instruction entered further

  -- outside, the labels of an instruction
  outside_i : (i : Instr Plain) (ls : List Token) → labels_in 0 (tokens_i i ++ ls) ≡ count_i i + labels_in 0 ls
  outside_i (assign x e) ls = ap (1 +◌) (skip_e 0 e ls)
  outside_i (write y o e) ls = ap (1 +◌) (skip₂ 0 o e ls)
  outside_i (read x y o) ls = ap (1 +◌) (skip_e 0 o ls)
  outside_i (while e b) ls = omega (arith, ap (labels_in 0) (append_assoc (tokens_e e) (tokens b) ls), skip_e 0 e (tokens b ++ ls), outside_b b ls)
  outside_i (if e b c) ls =
      omega (
        arith,
        ap (labels_in 0) (append_assoc (tokens_e e) (tokens b ++ tokens c) ls),
        ap (λ ls. labels_in 0 (tokens_e e ++ ls)) (append_assoc (tokens b) (tokens c) ls),
        skip_e 0 e (tokens b ++ (tokens c ++ ls)),
        outside_b b (tokens c ++ ls),
        outside_b c ls,
      )
  outside_i (call m es) ls = ap (1 +◌) (skip_es 0 es ls)
  outside_i (atomic b) ls = ap (1 +◌) (within_b 0 b ls)
  outside_i (select a b) ls = refl

  -- of a block
  outside_b : (b : Block Plain) (ls : List Token) → labels_in 0 (tokens b ++ ls) ≡ count b + labels_in 0 ls
  outside_b end ls = refl
  outside_b (step a i b) ls = omega (arith, ap (labels_in 0) (append_assoc (tokens_i i) (tokens b) ls), outside_i i (tokens b ++ ls), outside_b b ls)

-- ---- of all procedures

-- their tokens
abbrev all_tokens : List (Proc Plain) → List Token
all_tokens [] = []
all_tokens (p ∷ ps) = tokens p.body ++ all_tokens ps

-- their labels, but for one end label each
all_labels : (ps : List (Proc Plain)) → length ps + labels_in 0 (all_tokens ps) ≡ counts ps
unfolding labels_in
all_labels [] = refl
all_labels (p ∷ ps) = omega (arith, outside_b p.body (all_tokens ps), all_labels ps)

-- they stand in the table
all_rows_lem : {t : List ℕ} (i : ℕ) {j : ℕ} (ps : List (Proc Plain)) → Each (BlockFits max_nesting) (bodies_of ps)
    → Stands t i (each block (bodies_of ps)) j → Row t i (all_tokens ps) j
all_rows_lem {t} i [] f s = subst (λ (j : ℕ). Row t i [] j) (omega (arith, s.ends)) done
all_rows_lem i (p ∷ ps) f s =
    row_append (row p.body f.0.1 (front (block p.body) (each block (bodies_of ps)) s))
    (all_rows_lem (i + length (block p.body)) ps f.1 (back (block p.body) (each block (bodies_of ps)) s))

-- ---- one token

-- no instruction: 00
pub begins_stop : {k : Token} → k ≡ T.Stop → 0 ≡ instruction k
unfolding instruction
begins_stop e = rw e

-- 03, 04, 01 and operators
pub begins_plain : {k : Token} → k ≡ T.Plain → 0 ≡ instruction k
unfolding instruction
begins_plain e = rw e

-- 02
pub begins_location : {k : Token} {l : ℕ} → k ≡ T.Location l → 0 ≡ instruction k
unfolding instruction
begins_location e = rw e

-- 05
pub begins_local : {k : Token} {x : ℕ} → k ≡ T.Local x → 0 ≡ instruction k
unfolding instruction
begins_local e = rw e

-- an atomic block
pub enters_atomic : {k : Token} → k ≡ T.Atomic → 1 ≡ entered k
unfolding entered
enters_atomic e = rw e

-- blocks inside: 00
pub inside_stop : (n : ℕ) {k : Token} → k ≡ T.Stop → n - 1 ≡ further (n - 1) k
unfolding further
inside_stop n e = rw e

-- 23
pub inside_while : (n : ℕ) {k : Token} → 0 < n → k ≡ T.While → n + 1 ≡ further (n - 1) k
unfolding further
inside_while n l e = rw e (omega arith)

-- 24
pub inside_if : (n : ℕ) {k : Token} → 0 < n → k ≡ T.If → n + 2 ≡ further (n - 1) k
unfolding further
inside_if n l e = rw e (omega arith)

-- 26
pub inside_atomic : (n : ℕ) {k : Token} → 0 < n → k ≡ T.Atomic → n + 1 ≡ further (n - 1) k
unfolding further
inside_atomic n l e = rw e (omega arith)

-- inside an atomic block there is no label
pub own_within : (n : ℕ) (k : Token) → 0 < n → 0 ≡ own_labels n k
unfolding own_labels
own_within zero k l = absurd (omega arith)
own_within (suc n) k l = refl

-- outside there may be one
pub own_outside : (n : ℕ) (k : Token) {r : ℕ} → n ≤ 0 → r ≡ instruction k → r ≡ own_labels n k
unfolding own_labels
own_outside zero k l e = e
own_outside (suc n) k l e = absurd (omega arith)

-- the blocks behind a token inside
pub open_within : (n : ℕ) (k : Token) {r : ℕ} → 0 < n → r ≡ further (n - 1) k → r ≡ blocks_open n k
unfolding blocks_open
open_within zero k l e = absurd (omega arith)
open_within (suc n) k l e = e ∙ ap (λ n. further n k) (omega arith)

-- and outside
pub open_outside : (n : ℕ) (k : Token) {r : ℕ} → n ≤ 0 → r ≡ entered k → r ≡ blocks_open n k
unfolding blocks_open
open_outside zero k l e = e
open_outside (suc n) k l e = absurd (omega arith)

-- ---- the loop

-- so many labels and blocks are counted before i
pub record Counting (t : List ℕ) (P R i c n : ℕ) : Type 0 where
  pub few : c ≤ P + i
  pub deep : n ≤ i + i
  pub from : From t R (tally P 0) 0 (tally c n) i

-- a token has at most one label, and opens at most two blocks
few : (n : ℕ) (k : Token) → (instruction k ≤ 1) × (entered k ≤ 1) × (further n k ≤ n + 3)
unfolding instruction entered further
few n T.Stop = omega arith
few n T.Plain = omega arith
few n (T.Location l) = omega arith
few n (T.Local x) = omega arith
few n (T.Assign x) = omega arith
few n (T.Write y) = omega arith
few n (T.Read x y) = omega arith
few n T.While = omega arith
few n T.If = omega arith
few n (T.Call m k) = omega arith
few n T.Atomic = omega arith
few n (T.Select a b) = omega arith

-- so its labels are few
pub own_few : (n : ℕ) (k : Token) → own_labels n k ≤ 1
unfolding own_labels
own_few zero k = (few 0 k).0
own_few (suc n) k = omega arith

-- and the blocks behind it
open_few : (n : ℕ) (k : Token) → blocks_open n k ≤ n + 2
unfolding blocks_open
open_few zero k = omega (arith, (few 0 k).1)
open_few (suc n) k = omega (arith, (few n k).2)

module _ (t : List ℕ) (P R : ℕ) where
  -- none yet
  pub count_start : Counting t P R 0 P 0
  count_start = record { few = omega arith; deep = omega arith; from = from_start }

  -- one token
  pub count_next : {i c n : ℕ} {k : Token} {o b j : ℕ} → Counting t P R i c n → i < R → k ≡ token_at t i → o ≡ own_labels n k
      → b ≡ blocks_open n k → j ≡ i + size_at t i
      → Counting t P R j (c + o) b
  unfolding tally labels_in
  count_next {i} {c} {n} {k} {o} {b} {j} C l ek eo eb ej = record {
    few = omega (arith, C.few, own_few n k, size_pos t i);
    deep = omega (arith, C.deep, open_few n k, size_pos t i);
    from = rw ej (from_next (tally (c + o) b) C.from l (λ ks. rw (← ek, ← eo, ← eb) (omega arith)));
  }

  -- all
  pub count_done : {i c n : ℕ} → Counting t P R i c n → R ≤ i → CountsLabels t P R c
  unfolding tally labels_in
  count_done {i} {c} {n} C l = record {
    gives = λ p laid.
        let s : Scans t R (tally P 0) 0 c = from_end C.from l (omega arith) in
        let code : Row t 0 (all_tokens p.procs) (records_at p) =
        all_rows_lem 0 p.procs laid.formed.fits (all_bodies laid.kind p laid.formed.same)
        in
        let whole : Row t 0 (all_tokens p.procs) R = rw laid.records code in
        s.gives (all_tokens p.procs) whole ∙ rw laid.procs (all_labels p.procs);
  }

-- one law for each way
pub ruleset ways = (
  begins_stop,
  begins_plain,
  begins_location,
  begins_local,
  enters_atomic,
  inside_stop,
  inside_while,
  inside_if,
  inside_atomic,
  own_within,
  own_outside,
  open_within,
  open_outside,
  count_start,
  count_next,
  count_done,
  token_falls,
)
