-- One law for each way through the reader of an instruction that holds no block.
use Rattle.std.specs.Prelude.{Option, None}
use Prim.Native.Nat.{ℕ, suc, ◌+◌, ◌≤◌, ◌<◌}
use native.Mathlib.Omega.{arith}
use mathlib.Core.Path.{◌≡◌, refl, sym, ◌∙◌}
use mathlib.Core.List.{List, [], ◌∷◌}
use mathlib.Core.Bool.{Bool, true, false}
use mathlib.Core.Bool as B
use lib.ListN.{length, get_or, take, drop, drop_of_length-le}
use lib.Seq.{drop-cons}
use lib.Dec.{leb, eqb}
use borrow.Author.Tests.{leb-true, leb-false, eqb-true}
use Rattle.value.specs.Maybe.{is, nothing, ◌>>=◌, both}
use Rattle.value.specs.Values.{unbytes}
use Rattle.value.proofs.Laws.Tests.{by_test}
use Rattle.format.specs.Syntax.{Expr, assign, write, read, call, select, Plain}
use Rattle.format.specs.Decode.{Read, byte, number, times, expr, Form, assign_form, write_form, read_form, while_form, if_form, call_form, atomic_form}
use Rattle.format.specs.Decode.{select_form, no_form, forms, formed, instr, block, max_depth}
use Rattle.format.specs.Rules.{Here, allowed_i, is_concurrent}
use Rattle.parse.specs.Ends.{end_of, check, ReadsValues, ReadsPlain}
use Rattle.format.proofs.Laws.Blocks.{forms?, form_right}
use Rattle.format.proofs.Laws.Positions.{byte_at, byte_past, number_at_lem, number_past}
use Rattle.parse.proofs.Chains.{ends_made, ends_made₂, ends_alike, always_passes, never_passes, fails_behind}

-- an instruction, by its first byte
pub instr_at : (t : List ℕ) (i d : ℕ) (b : ℕ) → i < length t → get_or t i 0 ≡ b
    → instr (block d) (drop i t) ≡ formed (block d) (get_or forms b no_form) (drop (i + 1) t)
instr_at t i d b l e = let next : i + 1 ≡ suc i = omega arith in rw (drop-cons t i 0 l, e, next)

-- a byte that begins no instruction
other_form : (b : ℕ) → (b ≡ 0x20 → ⊥) → (b ≡ 0x21 → ⊥) → (b ≡ 0x22 → ⊥) → (b ≡ 0x23 → ⊥) → (b ≡ 0x24 → ⊥) → (b ≡ 0x25 → ⊥) → (b ≡ 0x26 → ⊥)
    → (b ≡ 0x27 → ⊥) → get_or forms b no_form ≡ no_form
other_form b n₀ n₁ n₂ n₃ n₄ n₅ n₆ n₇ = go (get_or forms b no_form) (form_right b)
  where
    go : (k : Form) → forms? b k ≡ true → k ≡ no_form
    go assign_form e = absurd (n₀ (eqb-true b 0x20 e))
    go write_form e = absurd (n₁ (eqb-true b 0x21 e))
    go read_form e = absurd (n₂ (eqb-true b 0x22 e))
    go while_form e = absurd (n₃ (eqb-true b 0x23 e))
    go if_form e = absurd (n₄ (eqb-true b 0x24 e))
    go call_form e = absurd (n₅ (eqb-true b 0x25 e))
    go atomic_form e = absurd (n₆ (eqb-true b 0x26 e))
    go select_form e = absurd (n₇ (eqb-true b 0x27 e))
    go no_form e = refl

-- ---- the ways

module _ (t : List ℕ) (i : ℕ) (h : Here) where
  -- what is read of an instruction at i
  abbrev here : ℕ → Option ℕ
  here d = end_of t (instr (block d) (drop i t) >>= check (allowed_i h))

  -- past the end
  pub plain_past : length t ≤ i → ReadsPlain t i h None
  plain_past l =
      let none : drop i t ≡ [] = drop_of_length-le t {i = i} l in
      record { gives = λ d n₃ n₄ n₆. record { same = rw none } }

  -- k bytes, and then n expressions
  bytes_then : (k n : ℕ) {r : Option ℕ} → ReadsValues t (i + k) n r
      → ((d : ℕ) → i + k ≤ length t → here d ≡ end_of t (times (expr max_depth) n (drop (i + k) t))) → ((d : ℕ) → length t < i + k → here d ≡ None)
      → ReadsPlain t i h r
  bytes_then k n {r} R room short = by_test (leb (i + k) (length t))
      (λ e.
      let same : r ≡ end_of t (times (expr max_depth) n (drop (i + k) t)) = rw e at R.same in
      record { gives = λ d n₃ n₄ n₆. record { same = same ∙ sym (room d (leb-true (i + k) (length t) e)) } })
      (λ e.
      let same : r ≡ None = rw e at R.same in
      record { gives = λ d n₃ n₄ n₆. record { same = same ∙ sym (short d (leb-false (i + k) (length t) e)) } })

  module _ (inside : i < length t) where
    -- one expression
    one_value : (bs : List ℕ) → end_of t (expr max_depth bs) ≡ end_of t (times (expr max_depth) 1 bs)
    one_value bs = sym (ends_made t (expr max_depth bs) (◌∷ []))

    -- x := e
    pub reads_assign : {r : Option ℕ} → get_or t i 0 ≡ 0x20 → ReadsValues t (i + 2) 1 r → ReadsPlain t i h r
    reads_assign q R = bytes_then 2 1 R
        (λ d room.
        let next : i + 1 + 1 ≡ i + 2 = omega arith in
        rw (instr_at t i d 0x20 inside q, byte_at t (i + 1) (omega arith), next)
        (always_passes t (expr max_depth (drop (i + 2) t)) (assign (get_or t (i + 1) 0)) (allowed_i h) (λ e. refl) ∙ one_value (drop (i + 2) t)))
        (λ d short. rw (instr_at t i d 0x20 inside q, byte_past t (i + 1) (omega arith)))

    -- y[o] := e
    pub reads_write : {r : Option ℕ} → get_or t i 0 ≡ 0x21 → ReadsValues t (i + 2) 2 r → ReadsPlain t i h r
    reads_write q R = bytes_then 2 2 R
        (λ d room.
        let next : i + 1 + 1 ≡ i + 2 = omega arith in
        let first = expr max_depth (drop (i + 2) t) in
        rw (instr_at t i d 0x21 inside q, byte_at t (i + 1) (omega arith), next)
        (two_values (get_or t (i + 1) 0) first
        ∙ ends_alike t first (expr max_depth) (times (expr max_depth) 1) one_value
        ∙ sym (ends_made₂ t first (times (expr max_depth) 1) ◌∷◌)))
        (λ d short. rw (instr_at t i d 0x21 inside q, byte_past t (i + 1) (omega arith)))
      where
        -- two expressions, and nothing is forbidden
        two_values : (y : ℕ) (m : Read Expr)
            → end_of t ((m >>= λ (o, r). expr max_depth r >>= λ (e, r). is (write y o e, r)) >>= check (allowed_i {A = Plain} h))
            ≡ end_of t (m >>= λ (o, r). expr max_depth r)
        two_values y nothing = refl
        two_values y (is got) = always_passes t (expr max_depth got.1) (write y got.0) (allowed_i h) (λ e. refl)

    -- x := y[o]
    pub reads_read : {r : Option ℕ} → get_or t i 0 ≡ 0x22 → ReadsValues t (i + 3) 1 r → ReadsPlain t i h r
    reads_read q R = bytes_then 3 1 R
        (λ d room.
        let next : i + 1 + 1 ≡ i + 2 = omega arith in
        let after : i + 2 + 1 ≡ i + 3 = omega arith in
        rw (instr_at t i d 0x22 inside q, byte_at t (i + 1) (omega arith), next, byte_at t (i + 2) (omega arith), after)
        (always_passes t (expr max_depth (drop (i + 3) t)) (read (get_or t (i + 1) 0) (get_or t (i + 2) 0)) (allowed_i h) (λ e. refl)
        ∙ one_value (drop (i + 3) t)))
        (λ d short.
        rw (instr_at t i d 0x22 inside q)
        (by_test (leb (length t) (i + 1))
        (λ e. rw (byte_past t (i + 1) (leb-true (length t) (i + 1) e)))
        (λ e.
        let next : i + 1 + 1 ≡ i + 2 = omega arith in
        rw (byte_at t (i + 1) (leb-false (length t) (i + 1) e), next, byte_past t (i + 2) (omega arith)))))

    -- a call: its callee, the count of its arguments, and these
    pub call_inside : get_or t i 0 ≡ 0x25 → h.inside ≡ true → ReadsPlain t i h None
    call_inside q e = record {
      gives = λ d n₃ n₄ n₆. record {
        same = sym
            (rw (instr_at t i d 0x25 inside q)
            (fails_behind t (number 2 (drop (i + 1) t)) _ (allowed_i h) λ m r.
            fails_behind t (byte r) _ (allowed_i h) λ n r.
            never_passes t (times (expr max_depth) n r) (call m) (allowed_i h) (λ es. rw e)));
      };
    }

    -- no byte for the count
    pub call_cut : get_or t i 0 ≡ 0x25 → length t ≤ i + 3 → ReadsPlain t i h None
    call_cut q l = record {
      gives = λ d n₃ n₄ n₆. record {
        same =
            rw (instr_at t i d 0x25 inside q)
            (by_test (leb (i + 3) (length t))
            (λ e.
            let next : i + 1 + 2 ≡ i + 3 = omega arith in
            rw (number_at_lem t (i + 1) 2 (omega (arith, leb-true (i + 3) (length t) e)), next, byte_past t (i + 3) l))
            (λ e. rw (number_past t (i + 1) 2 (omega (arith, leb-false (i + 3) (length t) e)) (omega arith))));
      };
    }

    -- and these
    pub reads_call : {r : Option ℕ} → get_or t i 0 ≡ 0x25 → h.inside ≡ false → i + 3 < length t → ReadsValues t (i + 4) (get_or t (i + 3) 0) r
        → ReadsPlain t i h r
    reads_call q e l R = bytes_then 4 (get_or t (i + 3) 0) R
        (λ d room.
        let next : i + 1 + 2 ≡ i + 3 = omega arith in
        let after : i + 3 + 1 ≡ i + 4 = omega arith in
        let args = times (expr max_depth) (get_or t (i + 3) 0) (drop (i + 4) t) in
        rw (instr_at t i d 0x25 inside q, number_at_lem t (i + 1) 2 (omega arith), next, byte_at t (i + 3) (omega arith), after)
        (always_passes t args (call (unbytes (take 2 (drop (i + 1) t)))) (allowed_i h) (λ es. rw e)))
        (λ d short. absurd (omega arith))

    -- select where it may not stand
    pub no_select : {b : Bool} → get_or t i 0 ≡ 0x27 → b ≡ both (B.not (is_concurrent h.kind)) (eqb h.proc 0) → b ≡ false
        → ReadsPlain t i h None
    no_select q e f = record {
      gives = λ d n₃ n₄ n₆. record {
        same = sym
            (rw (instr_at t i d 0x27 inside q)
            (fails_behind t (number 2 (drop (i + 1) t)) _ (allowed_i h) λ a r.
            never_passes t (number 2 r) (select a) (allowed_i h) (λ b. sym e ∙ f)));
      };
    }

    -- and where it may
    pub reads_select : {b : Bool} {r : Option ℕ} → get_or t i 0 ≡ 0x27 → b ≡ both (B.not (is_concurrent h.kind)) (eqb h.proc 0) → b ≡ true
        → ReadsValues t (i + 5) 0 r → ReadsPlain t i h r
    reads_select q e f R = bytes_then 5 0 R
        (λ d room.
        let next : i + 1 + 2 ≡ i + 3 = omega arith in
        let after : i + 3 + 2 ≡ i + 5 = omega arith in
        rw (instr_at t i d 0x27 inside q, number_at_lem t (i + 1) 2 (omega arith), next, number_at_lem t (i + 3) 2 (omega arith), after, ← e, f))
        (λ d short.
        rw (instr_at t i d 0x27 inside q)
        (by_test (leb (i + 3) (length t))
        (λ e.
        let next : i + 1 + 2 ≡ i + 3 = omega arith in
        rw (number_at_lem t (i + 1) 2 (omega (arith, leb-true (i + 3) (length t) e)), next, number_past t (i + 3) 2 (omega arith) (omega arith)))
        (λ e. rw (number_past t (i + 1) 2 (omega (arith, leb-false (i + 3) (length t) e)) (omega arith)))))

    -- no other byte begins an instruction
    pub no_form_lem : (get_or t i 0 ≡ 0x20 → ⊥) → (get_or t i 0 ≡ 0x21 → ⊥) → (get_or t i 0 ≡ 0x22 → ⊥) → (get_or t i 0 ≡ 0x25 → ⊥) → (get_or t i 0 ≡ 0x27 → ⊥)
        → ReadsPlain t i h None
    no_form_lem n₀ n₁ n₂ n₅ n₇ = record {
      gives = λ d n₃ n₄ n₆. record {
        same = rw (instr_at t i d (get_or t i 0) inside refl, other_form (get_or t i 0) n₀ n₁ n₂ n₃ n₄ n₅ n₆ n₇);
      };
    }

-- one law for each way
pub ruleset plain_ways = (plain_past, reads_assign, reads_write, reads_read, call_inside, call_cut, reads_call, no_select, reads_select, no_form_lem)
