-- One law for each way through rules 1 and 2.
use Prim.Native.Nat.{ℕ, ◌+◌, ◌-◌, ◌≤◌, ◌<◌}
use native.Mathlib.Omega.{arith}
use mathlib.Core.Path.{◌≡◌, refl, sym, ap, ◌∙◌}
use mathlib.Core.List.{List}
use mathlib.Core.Bool.{Bool, true, false}
use lib.ListN.{length, length-drop}
use lib.Seq.{drop-length}
use Rattle.value.specs.Maybe.{Maybe, is, nothing}
use Rattle.value.proofs.Laws.Bytes.{Bytes}
use Rattle.basics.specs.Laws.Places as Numbers
use Rattle.format.specs.Syntax.{Kind}
use Rattle.format.specs.Encode.{Trailer, kind_mark, trailer_size, form_mark, distance}
use Rattle.format.specs.Encode as E
use Rattle.format.proofs.Laws.Reading.{If, so, none}
use Rattle.format.proofs.Laws.Sections.{All, TrailerFits, finish_only, trailer_exact, bytes_last}
use Rattle.format.proofs.Laws.Judged.{trailer?}
use Rattle.format.proofs.Laws.Positions.{byte_at, number_at_lem}
use Rattle.format.specs.Decode.{finish, last}
use Rattle.format.specs.Decode as D
use Rattle.shape.specs.Shapes.{trailer_of, TrailerAt, TrailerTest, CountsTest, HeaderIs}
use Rattle.shape.specs.declared.header.Trailer as H
use Rattle.basics.specs.declared.refusals.Refusal.TheVariants as F
use Rattle.std.specs.Prelude.{Ok, Err}

-- the trailer is there
trailer_there : (t : List ℕ) (r : H.Trailer) → trailer_size ≤ length t → TrailerAt t r → finish (D.trailer (last trailer_size t)) ≡ is (trailer_of r)
trailer_there t r l at =
    let e : ℕ = length t - trailer_size in
    let p₂ : e + 1 + 1 ≡ e + 2 = omega arith in
    let p₄ : e + 2 + 2 ≡ e + 4 = omega arith in
    let p₆ : e + 4 + 2 ≡ e + 6 = omega arith in
    let p₈ : e + 6 + 2 ≡ e + 8 = omega arith in
    let p₁₂ : e + 8 + 4 ≡ e + 12 = omega arith in
    let p₁₆ : e + 12 + 4 ≡ length t = omega arith in
    rw (
      byte_at t e (omega arith),
      byte_at t (e + 1) (omega arith),
      p₂,
      number_at_lem t (e + 2) 2 (omega arith),
      p₄,
      number_at_lem t (e + 4) 2 (omega arith),
      p₆,
      number_at_lem t (e + 6) 2 (omega arith),
      p₈,
      number_at_lem t (e + 8) 4 (omega arith),
      p₁₂,
      number_at_lem t (e + 12) 4 (omega arith),
      p₁₆,
      drop-length,
    )
    (λ i. is (record {
      kind = sym at.kind i;
      mark = sym at.mark i;
      procs = sym (at.procedures ∙ Numbers.number_at_lem 2 t (e + 2)) i;
      places = sym (at.locations ∙ Numbers.number_at_lem 2 t (e + 4)) i;
      threads = sym (at.threads ∙ Numbers.number_at_lem 2 t (e + 6)) i;
      back = sym (at.distance ∙ Numbers.number_at_lem 4 t (e + 8)) i;
      whole = sym (at.length ∙ Numbers.number_at_lem 4 t (e + 12)) i;
    }))

-- fewer than 16 bytes are no trailer
no_trailer : (t : List ℕ) → Bytes t → length t < trailer_size → finish (D.trailer (last trailer_size t)) ≡ nothing
no_trailer t h l = go (finish (D.trailer (last trailer_size t))) (finish_only trailer_exact (last trailer_size t) (bytes_last trailer_size t h))
  where
    go : (m : Maybe Trailer) → If (All E.trailer TrailerFits (last trailer_size t)) m → m ≡ nothing
    go nothing none = refl
    go (is r) (so whole) = absurd (omega (arith, ap length whole.same, length-drop (length t - trailer_size) t))

module _ (k : Kind) (t : List ℕ) where
  -- "under 16 bytes"
  pub header_short : length t < trailer_size → HeaderIs k t (Err F.Trailer)
  header_short l = record { gives = λ h. rw (no_trailer t h l) }

  module _ {r : H.Trailer} (long : trailer_size ≤ length t) (at : TrailerAt t r) where
    -- rule 1 does not let it through
    pub header_wrong : {b : Bool} → TrailerTest k t (trailer_of r) b → b ≡ false → HeaderIs k t (Err F.Trailer)
    header_wrong T e = record { gives = λ h. rw (trailer_there t r long at, ← T.same, e) }

    module _ {b : Bool} (T : TrailerTest k t (trailer_of r) b) (right : b ≡ true) where
      -- rule 2 does not
      pub header_over : {c : Bool} → CountsTest k t (trailer_of r) c → c ≡ false → HeaderIs k t (Err F.Counts)
      header_over C e = record { gives = λ h. rw (trailer_there t r long at, ← T.same, right, ← C.same, e) }

      -- both do
      pub header_right : {c : Bool} → CountsTest k t (trailer_of r) c → c ≡ true → HeaderIs k t (Ok r)
      header_right C e =
          let parts = (trailer? k t (trailer_of r)).so (sym T.same ∙ right) in
          record {
            gives = record {
              long = long;
              back = parts.1.1.0;
              room = parts.1.1.1.1;
              read = trailer_there t r long at;
              trailer = sym T.same ∙ right;
              counts = sym C.same ∙ e;
            };
          }

-- one law for each way
pub ruleset header_ways = (header_short, header_wrong, header_over, header_right)
