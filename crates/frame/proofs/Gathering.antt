-- The whole text, of its parts.
use Prim.Native.Nat.{ℕ, ◌+◌, ◌*◌, ◌-◌}
use native.Mathlib.Omega.{arith}
use mathlib.Core.Path.{◌≡◌, refl, sym, ◌∙◌}
use mathlib.Core.List.{List, ◌++◌, append_assoc}
use lib.ListN.{length}
use Rattle.value.proofs.Laws.Lists.{Each, each_so, each_at}
use Rattle.format.specs.Syntax.{Program, Plain, sequential}
use Rattle.format.specs.Encode.{table}
use Rattle.format.specs.Rules.{max_size}
use Rattle.format.proofs.Laws.Sound.{Within, Sound}
use Rattle.format.proofs.Laws.Stands.{first, others}
use Rattle.format.proofs.Laws.Stands as Stands
use Rattle.format.proofs.Laws.TablePlaces.{records_at, all_bodies, record_stands, size_stands, trailer_at}
use Rattle.basics.specs.Laws.Places.{number_at_lem}
use Rattle.ctext.specs.Pieces.{say}
use Rattle.ctext.specs.Prelude.{prelude}
use Rattle.ctext.specs.Text.{numbered, location, area, declaration, definition, text}
use Rattle.ctext.proofs.Laws.DefinitionText.{ProcFits}
use Rattle.ctext.proofs.Laws.OneToOne.{program_text}
use Rattle.typeset.specs.declared.pieces.Page.{Page}
use Rattle.typeset.specs.Page.{Put}
use Rattle.typeset.proofs.Setting.{put_then, put_same}
use Rattle.frame.specs.Frames.{SizesAt, ShowsPlaces, RecordsAt, BodiesAt, ShowsDeclarations, ShowsDefinitions, ShowsText}

module _ {t : List ℕ} (p : Program Plain) (e : t ≡ table sequential p) (sound : Sound sequential p) where
  -- where the records begin
  records_begin : records_at p ≡ length t - 16 - (6 * length p.procs + 2 * length p.sizes)
  records_begin = omega (arith, trailer_at sequential p e, sound.threads.high)

  -- the sizes
  sizes_at_lem : SizesAt t (records_at p + 6 * length p.procs) (length p.sizes) p.sizes
  sizes_at_lem = record {
    count = refl;
    size = λ k {s} h.
        let small : Within 1 max_size s = each_at (Within 1 max_size) p.sizes k sound.sizes h in
        number_at_lem 2 t (records_at p + 6 * length p.procs + 2 * k) ∙ Stands.number_at_lem 2 s (size_stands sequential p e k h) (omega (arith, small.high));
  }

  -- the records
  records_at_lem : RecordsAt t (records_at p) (length p.procs) p.procs
  records_at_lem = record {
    count = refl;
    params = λ k h. first (record_stands sequential p e k h);
    locals = λ k h. first (others (record_stands sequential p e k h));
  }

  -- the bodies
  bodies_at : BodiesAt t 0 p.procs (records_at p)
  bodies_at =
      let fits : Each ProcFits p.procs = (program_text p sound refl).definitions.fits in
      record {
        stands = all_bodies sequential p e;
        fits = each_so (λ q f. f.body) p.procs fits;
        flat = each_so (λ q f. f.flat) p.procs fits;
      }

-- parts of a text
parts : (a b c d e f : List ℕ) → (a ++ (b ++ (c ++ (d ++ e)))) ++ f ≡ a ++ (b ++ (c ++ (d ++ (e ++ f))))
parts a b c d e f = simp append_assoc

-- the whole text
pub text_put : {t : List ℕ} {P M : ℕ} {b q r s : Page}
    → ShowsPlaces t (length t - 16 - (6 * P + 2 * M) + 6 * P) M b q
    → ShowsDeclarations t (length t - 16 - (6 * P + 2 * M)) P q r → ShowsDefinitions t (length t - 16 - (6 * P + 2 * M)) P r s
    → ShowsText t P M b s
unfolding text
text_put {t} {P} {M} {b} {q} {r} {s} A B C = record { shown = shown; kept = C.kept ∙ B.kept ∙ A.kept }
  where
    shown : (p : Program Plain) → t ≡ table sequential p → Sound sequential p → P ≡ length p.procs → M ≡ length p.sizes → Put b (text p) s
    shown p e sound f g =
        let begin : length t - 16 - (6 * P + 2 * M) ≡ records_at p = rw (f, g) (sym (records_begin p e sound)) in
        let rows : SizesAt t (length t - 16 - (6 * P + 2 * M) + 6 * P) M p.sizes = rw (begin, f, g) (sizes_at_lem p e sound) in
        let heads : RecordsAt t (length t - 16 - (6 * P + 2 * M)) P p.procs = rw (begin, f) (records_at_lem p e sound) in
        let bodies : BodiesAt t 0 p.procs (records_at p) = bodies_at p e sound in
        let L : List ℕ = numbered location 0 p.sizes in
        let K : List ℕ = numbered area 0 p.sizes in
        let D : List ℕ = numbered declaration 0 p.procs in
        let F : List ℕ = numbered definition 0 p.procs in
        let consts : List ℕ = say "const z_area z_areas[] = {\n" in
        let zeros : List ℕ = say "  { 0, 0 }\n};\n\n" in
        put_same (parts prelude L consts K zeros (D ++ F))
        (put_then (prelude ++ (L ++ (consts ++ (K ++ zeros)))) (D ++ F) (A.shown p.sizes rows)
        (put_then D F (B.shown p.procs heads) (C.shown p.procs (records_at p) heads bodies)))
