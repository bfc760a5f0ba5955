-- One law for each way through the mender's answer.
use Prim.Native.Nat.{ℕ, zero, suc, ◌+◌, ◌*◌, ◌-◌, ◌/◌, ◌≤◌, ◌<◌}
use native.Mathlib.Omega.{arith}
use native.Mathlib.Nat.{zero-add}
use mathlib.Core.Path.{◌≡◌, refl, sym, ap, ap₂, subst, ◌∙◌}
use mathlib.Core.List.{List, [], ◌∷◌, ◌++◌}
use mathlib.Core.Bool.{Bool, true, false}
use lib.ListN.{length, drop, length-append, length-drop}
use lib.Dec.{ltb}
use lib.Seq.{sets-eq}
use borrow.Author.Tests.{lt-ltb, le-ltb}
use Rattle.value.specs.Lists.{over}
use Rattle.value.proofs.Laws.Bytes.{Bytes}
use Rattle.value.proofs.Laws.Lists.{here}
use Rattle.format.specs.Syntax.{Kind, sequential}
use Rattle.format.specs.Encode.{each, Trailer, trailer, trailer_size}
use Rattle.format.specs.Decode.{but, last}
use Rattle.format.specs.Rules as R
use Rattle.format.specs.Rules.{limits}
use Rattle.format.proofs.Laws.Passes.{at_most}
use Rattle.format.proofs.Laws.Sections.{last_append, but_last}
use Rattle.basics.specs.declared.numbers.Limits as L
use Rattle.parse.specs.Ends.{limits_of}
use Rattle.writer.specs.Laws.Put.{Put}
use Rattle.mending.specs.Mending.{trailer_for, with_trailer, accepts, acceptable, Change, changes_from, change_bytes, change_size}
use Rattle.mending.specs.Mending.{Outcome, untouched, become, mend_by, kind_numbered, mend_call}
use Rattle.mending.specs.declared.MendAnswer.{MendAnswer}
use Rattle.mending.proofs.Laws.Narrow.{acceptable_narrowed}
use Rattle.mending.proofs.Laws.Changes.{changes_bytes, changes_behind, changes_few}
use Rattle.mending.proofs.Laws.Found.{Listed, listed}
use Rattle.mending.proofs.Laws.Mended.{with_front, with_length}
use Rattle.mender.specs.declared.trailer.Counts.{Counts}
use Rattle.mender.specs.declared.search.Found.{Found}
use Rattle.mender.specs.declared.search.Found.TheVariants.{None, One, Several}
use Rattle.mender.specs.Trailing.{Sized, trailer_as, Trails, Keeps, PutsBack, ListsChanges}
use Rattle.mender.specs.Searching.{counts_of, tally, Accepted, Finds}
use Rattle.mender.specs.Answering.{left, answer_of, some_of, settled, Becomes, MendsBut, Mends, Called}
use Rattle.std.specs.Prelude.{Option, Result, Ok, Err}
use Rattle.std.specs.Prelude as Opt
use Rattle.std.specs.Result.{is_err}
use Rattle.basics.specs.declared.refusals.Refusal.{Refusal}
use Rattle.basics.specs.declared.refusals.Refusal.TheVariants as Why

-- the kind by its number
pub numbered : (n : ℕ) → (n ≡ 0 → ⊥) → sequential ≡ kind_numbered n
numbered zero some = absurd (some refl)
numbered (suc n) some = refl

-- ---- the one choice

-- a refusal
abbrev without : ℕ → MendAnswer
without n = record { refusal = n; mended = false; changes = 0 }

-- by the test of the list
abbrev becoming : List ℕ → List ℕ → List ℕ → Bool → Outcome
becoming t u l b = elim b [
  | true ↦ untouched 10 t l
  | false ↦ record {
    answer = record { refusal = 0; mended = true; changes = length (changes_from 0 t u) };
    table = u;
    list = over (each change_bytes (changes_from 0 t u)) l;
  }
]

-- the table as it was
abbrev was : List ℕ → List ℕ → List ℕ
was t old = but trailer_size t ++ old

-- and as it is to be
abbrev with_new : Kind → List ℕ → Counts → List ℕ
with_new k t c = with_trailer t (trailer_as k t c)

-- it stays sized
pub trails_sized : {k : Kind} {t : List ℕ} {c : Counts} {t₁ : List ℕ} → Sized t → Trails k t c t₁ → Sized t₁
trails_sized {k} {t} {c} {t₁} s T =
    let long : length t₁ ≡ length t = ap length T.same ∙ with_length t (trailer_as k t c) s.long in
    record { long = omega (arith, s.long); few = omega (arith, s.few) }

module _ {k : Kind} {t : List ℕ} {c : Counts} {t₁ : List ℕ} (s : Sized t) (T : Trails k t c t₁) where
  -- what changes
  changes : (old : List ℕ) → changes_from (length t₁ - trailer_size) old (last trailer_size t₁) ≡ changes_from 0 (was t old) (with_new k t c)
  changes old =
      let r : Trailer = trailer_as k t c in
      let ends : last trailer_size t₁ ≡ trailer r = ap (last trailer_size) T.same ∙ last_append (but trailer_size t) (trailer r) trailer_size refl in
      let long : length t₁ - trailer_size ≡ 0 + length (but trailer_size t) =
      omega (arith, ap length T.same, length-append (but trailer_size t) (trailer r))
      in
      ap₂ (λ (i : ℕ) (v : List ℕ). changes_from i old v) long ends ∙ sym (changes_behind 0 (but trailer_size t) old (trailer r))

  module _ {old o o' : List ℕ} {p : ℕ} (n : length old ≡ trailer_size) (C : ListsChanges old t₁ o o' p) where
    -- the bytes of the list
    puts : Put o 0 (each change_bytes (changes_from 0 (was t old) (with_new k t c))) o' p
    puts = subst (λ (cs : List Change). Put o 0 (each change_bytes cs) o' p) (changes old) C.puts

    -- there are few
    few : length (changes_from 0 (was t old) (with_new k t c)) ≤ trailer_size
    few = omega (arith, ap length (changes old), changes_few (length t₁ - trailer_size) old (last trailer_size t₁))

    -- how many
    many : p ≡ change_size * length (changes_from 0 (was t old) (with_new k t c))
    many = omega (arith, puts.next (omega (arith, few, changes_bytes (changes_from 0 (was t old) (with_new k t c)))), changes_bytes (changes_from 0 (was t old) (with_new k t c)))

    -- 10
    pub becomes_short : {l : List ℕ} → length l < p → Becomes k t c old l t₁ l (Err Why.NoRoom)
    becomes_short {l} short =
        let table : but trailer_size t₁ ++ old ≡ was t old = ap (◌++ old) (ap (but trailer_size) T.same ∙ with_front t (trailer_as k t c)) in
        record {
          same = ap (λ (y : List ℕ). left (without 10) y l) table
              ∙ sym (ap (becoming (was t old) (with_new k t c) l) (lt-ltb (length l) (change_size * length (changes_from 0 (was t old) (with_new k t c))) (omega (arith, many))));
        }

    -- mended
    pub becomes_new : {l l' : List ℕ} {q : ℕ} → p ≤ length l → ListsChanges old t₁ l l' q
        → Becomes k t c old l t₁ l' (Ok (p / change_size))
    becomes_new {l} {l'} {q} room D =
        let new : List ℕ = each change_bytes (changes_from 0 (was t old) (with_new k t c)) in
        let P : Put l 0 new l' q = subst (λ (cs : List Change). Put l 0 (each change_bytes cs) l' q) (changes old) D.puts in
        let long : length new ≡ change_size * length (changes_from 0 (was t old) (with_new k t c)) = changes_bytes (changes_from 0 (was t old) (with_new k t c)) in
        let list : l' ≡ over new l =
        P.wrote (omega (arith, few)) ∙ sets-eq new l 0 (omega (arith, many)) ∙ ap (λ (i : ℕ). new ++ drop i l) (zero-add (length new))
        in
        let count : p / change_size ≡ length (changes_from 0 (was t old) (with_new k t c)) = omega (arith, many) in
        record {
          same = (λ i. record {
            answer = record { refusal = 0; mended = true; changes = count i };
            table = T.same i;
            list = list i;
          }) ∙ sym (ap (becoming (was t old) (with_new k t c) l) (le-ltb (length l) (change_size * length (changes_from 0 (was t old) (with_new k t c))) (omega (arith, many))));
        }

-- ---- the choices that were found

-- the old bytes are sixteen
pub kept_long : {t old : List ℕ} → Sized t → Keeps t old → length old ≡ trailer_size
kept_long {t} s K = ap length K.same ∙ length-drop (length t - trailer_size) t ∙ omega (arith, s.long)

module _ {k : Kind} {t old t₁ : List ℕ} {f : Found} (s : Sized t) (K : Keeps t old) (F : Finds k t t₁ f) where
  -- the table with its old bytes is as it was
  back : but trailer_size t₁ ++ old ≡ t
  back = ap₂ (λ (x y : List ℕ). x ++ y) F.tallies.front K.same ∙ sym (but_last trailer_size t)

  -- what was found are the acceptable trailers
  found : Bytes t → f ≡ tally (acceptable k t)
  found h = F.tallies.same [] refl ∙ ap tally (sym (acceptable_narrowed k t h s.long))

  -- the table, for what is done then
  pub found_sized : Sized t₁
  found_sized = record { long = omega (arith, s.long, F.tallies.length); few = omega (arith, s.few, F.tallies.length) }

  -- a refusal
  refused : (why : Refusal) {l : List ℕ} → left (answer_of (Err why)) (but trailer_size t₁ ++ old) l ≡ left (answer_of (Err why)) t l
  refused why {l} = ap (λ (y : List ℕ). left (answer_of (Err why)) y l) back

  -- 14
  pub mends_none : {l : List ℕ} → f ≡ None → MendsBut k t old l t₁ l (Err Why.NoChoice)
  mends_none {l} z = record { same = λ h. go (acceptable k t) (sym (found h) ∙ z); length = F.tallies.length }
    where
      go : (rs : List Trailer) → tally rs ≡ None → left (answer_of (Err Why.NoChoice)) (but trailer_size t₁ ++ old) l ≡ mend_by t l rs
      go [] e = refused Why.NoChoice
      go (x ∷ []) e = cc
      go (x ∷ y ∷ rs) e = cc

  -- 15
  pub mends_several : {l : List ℕ} → f ≡ Several → MendsBut k t old l t₁ l (Err Why.Choices)
  mends_several {l} z = record { same = λ h. go (acceptable k t) (sym (found h) ∙ z); length = F.tallies.length }
    where
      go : (rs : List Trailer) → tally rs ≡ Several → left (answer_of (Err Why.Choices)) (but trailer_size t₁ ++ old) l ≡ mend_by t l rs
      go [] e = cc
      go (x ∷ []) e = cc
      go (x ∷ y ∷ rs) e = refused Why.Choices

  -- one
  pub mends_one : {c : Counts} {l t₂ l₂ : List ℕ} {r : Result ℕ Refusal} → f ≡ One c → length t₂ ≡ length t₁ → Becomes k t₁ c old l t₂ l₂ r
      → MendsBut k t old l t₂ l₂ r
  mends_one {c} {l} {t₂} {l₂} {r} z long B = record { same = λ h. go (acceptable k t) refl (sym (found h) ∙ z); length = long ∙ F.tallies.length }
    where
      go : (rs : List Trailer) → acceptable k t ≡ rs → tally rs ≡ One c → left (some_of r) (settled old t₂ r) l₂ ≡ mend_by t l rs
      go [] a e = cc
      go (x ∷ []) a e =
          let counts : counts_of x ≡ c = cc in
          let form : Listed k t x = listed k t x (rw a here) in
          let same : trailer_as k t₁ c ≡ x =
          ap₂ (λ (d : Counts) (n : ℕ). trailer_for k n d.procedures d.locations d.threads) (sym counts) F.tallies.length
          ∙ ap (λ (y : Trailer). trailer_for k (length t) y.procs y.places y.threads) form.same ∙ sym form.same
          in
          B.same ∙ ap₂ (λ (v w : List ℕ). become v w l) back (ap₂ (λ (u : List ℕ) (y : Trailer). u ++ trailer y) F.tallies.front same)
      go (x ∷ y ∷ rs) a e = cc

-- ---- a refusal puts the old bytes back

module _ {k : Kind} {t old l t₁ l₁ : List ℕ} {r : Result ℕ Refusal} (M : MendsBut k t old l t₁ l₁ r) where
  -- the table is still sized
  pub put_sized : Sized t → Sized t₁
  put_sized s = record { long = omega (arith, s.long, M.length); few = omega (arith, s.few, M.length) }

  -- mended
  pub settles_new : is_err r ≡ false → Mends k t l t₁ l₁ r
  settles_new e = record { same = λ h. go r e ∙ M.same h }
    where
      go : (r : Result ℕ Refusal) → is_err r ≡ false → left (some_of r) t₁ l₁ ≡ left (some_of r) (settled old t₁ r) l₁
      go (Ok n) e = refl
      go (Err why) e = cc

  -- refused
  pub settles_old : {t₂ : List ℕ} → is_err r ≡ true → PutsBack old t₁ t₂ → Mends k t l t₂ l₁ r
  settles_old {t₂} e B = record { same = λ h. go r e ∙ M.same h }
    where
      go : (r : Result ℕ Refusal) → is_err r ≡ true → left (some_of r) t₂ l₁ ≡ left (some_of r) (settled old t₁ r) l₁
      go (Ok n) e = cc
      go (Err why) e = ap (λ (y : List ℕ). left (some_of (Err why)) y l₁) B.same

-- ---- the call

-- by its tests
abbrev calling : Kind → List ℕ → List ℕ → Bool → Bool → Bool → Outcome
calling k t l a b c = elim a [
  | true ↦ untouched 1 t l
  | false ↦ elim b [
    | true ↦ untouched 2 t l
    | false ↦ elim c [
      | true ↦ untouched 0 t l
      | false ↦ mend_by t l (acceptable k t)
    ]
  ]
]

module _ (k : Kind) (t l : List ℕ) where
  -- 1
  pub call_short : length t < trailer_size → Called k t l t l (Err Why.Trailer)
  call_short h = record {
    same = sym (ap (λ (a : Bool). calling k t l a (ltb (limits k).bytes (length t)) (accepts k t)) (lt-ltb (length t) trailer_size h));
  }

  module _ (long : trailer_size ≤ length t) {m : L.Limits} (e : limits_of m ≡ limits k) where
    -- the bound, as the code has it
    bytes_as : (limits k).bytes ≡ m.bytes
    bytes_as = ap (λ (x : R.Limits). x.bytes) (sym e)

    -- 2
    pub call_over : m.bytes < length t → Called k t l t l (Err Why.Counts)
    call_over h = record {
      same =
          sym (ap₂ (λ (a b : Bool). calling k t l a b (accepts k t)) (le-ltb (length t) trailer_size long)
          (lt-ltb (limits k).bytes (length t) (omega (arith, bytes_as))));
    }

    module _ (few : length t ≤ m.bytes) where
      -- the table is sized
      pub call_sized : Sized t
      call_sized = record { long = long; few = omega (arith, bytes_as, (at_most k).bytes) }

      -- what is left to judge
      judging : (x : Outcome) {b : Bool} → Accepted k t b → x ≡ calling k t l false false b → x ≡ mend_call k t l
      judging x A q =
          q ∙ ap (calling k t l false false) A.same
          ∙ sym (ap₂ (λ (a b : Bool). calling k t l a b (accepts k t)) (le-ltb (length t) trailer_size long)
          (le-ltb (limits k).bytes (length t) (omega (arith, bytes_as))))

      -- nothing to mend
      pub call_whole : {b : Bool} → Accepted k t b → b ≡ true → Called k t l t l (Ok Opt.None)
      call_whole {b} A z = record { same = judging (left (answer_of (Ok Opt.None)) t l) A (sym (ap (calling k t l false false) z)) }

      module _ {b : Bool} (A : Accepted k t b) (z : b ≡ false) (h : Bytes t) {r : Result ℕ Refusal} {t' l' : List ℕ} (M : Mends k t l t' l' r) where
        -- by the choices
        call_mends : left (some_of r) t' l' ≡ mend_call k t l
        call_mends = judging (left (some_of r) t' l') A (M.same h ∙ sym (ap (calling k t l false false) z))

        -- mended
        pub call_mended : {n : ℕ} → r ≡ Ok n → Called k t l t' l' (Ok (Opt.Some n))
        call_mended q = record { same = ap (λ (x : Result ℕ Refusal). left (some_of x) t' l') (sym q) ∙ call_mends }

        -- or refused
        pub call_refused : {why : Refusal} → r ≡ Err why → Called k t l t' l' (Err why)
        call_refused q = record { same = ap (λ (x : Result ℕ Refusal). left (some_of x) t' l') (sym q) ∙ call_mends }

-- one law for each way
pub ruleset answer_ways = (
  numbered,
  trails_sized,
  becomes_short,
  becomes_new,
  kept_long,
  found_sized,
  mends_none,
  mends_several,
  mends_one,
  put_sized,
  settles_new,
  settles_old,
)

-- and through the call
pub ruleset call_ways = (call_short, call_over, call_sized, call_whole, call_mended, call_refused)
