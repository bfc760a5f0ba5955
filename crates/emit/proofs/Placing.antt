-- One law for each way through the layout's code.
use Rattle.std.proofs.Common.{◌≡◌, ℕ, zero, suc, ◌+◌, ◌*◌, ◌^◌, ◌<◌, ◌≤◌, List, [], ◌∷◌, ◌++◌, length, get_or, replicate, sym, refl, ap, ◌∙◌, ap₂, arith}
use Rattle.value.specs.Maybe.{Maybe, is, nothing}
use Rattle.basics.specs.Places.{number_at}
use Rattle.value.specs.Lists.{at}
use Rattle.value.proofs.Laws.Lists.{at_below, each_at}
use Rattle.value.proofs.Laws.Maybes.{missing}
use Rattle.format.specs.Syntax.{Proc, Program, Plain, concurrent}
use Rattle.format.proofs.Laws.Stands.{first, others, two_bytes}
use Rattle.format.proofs.Laws.Procs.{takes_at, proc_sound}
use Rattle.format.proofs.Laws.Names.{Takes}
use Rattle.format.proofs.Laws.TablePlaces.{records_at, record_stands, main_stands}
use Rattle.format.specs.Encode.{record_size}
use Rattle.format.specs.Rules.{limits}
use Rattle.translation.specs.Placement.{locals_of}
use Rattle.emit.specs.Laws.Shapes.{Shaped, LocalsAt, MainAt, SiteAt, RowsAt}
use Rattle.emit.specs.declared.layout.Shape.{Shape}
use Rattle.emit.specs.declared.layout.Site.{Site}

-- past the end there is nothing
at_past : {A : Type 0} (xs : List A) (i : ℕ) → length xs ≤ i → at xs i ≡ nothing
at_past [] i h = refl
at_past (x ∷ xs) zero h = absurd (omega arith)
at_past (x ∷ xs) (suc i) h = at_past xs i (omega arith)

-- a place below the length has something
nowhere : {A G : Type 0} (xs : List A) (i : ℕ) → i < length xs → at xs i ≡ nothing → G
nowhere [] i h e = absurd (omega arith)
nowhere (x ∷ xs) zero h e = missing (sym e)
nowhere (x ∷ xs) (suc i) h e = nowhere xs i (omega arith) e

-- a main is a procedure, and so a small number
main_small : {t : List ℕ} {h : Shape} (p : Program Plain) → Shaped t h p → (k m : ℕ) → at p.mains k ≡ is m → m < 65536
main_small p w k m e =
    let found = takes_at p.procs m 0 (each_at (λ (n : ℕ). Takes p.procs n 0) p.mains k w.sound.mains e) in
    omega (arith, at_below p.procs m found.1, w.sound.procs.high)

module _ {t : List ℕ} {h : Shape} where
  -- ---- locals

  -- past the last procedure
  pub locals_past : {m n : ℕ} → n ≡ h.procedures → n ≤ m → LocalsAt t h m 0
  locals_past {m} same l = record { gives = λ p w. sym (ap locals_of (at_past p.procs m (omega (arith, same, l, w.procedures)))) }

  -- in the record of a procedure
  pub locals_in : {m n i r : ℕ} → n ≡ h.procedures → m < n → i ≡ h.records → r ≡ get_or t (i + record_size * m + 1) 0 → LocalsAt t h m r
  locals_in {m} {i = i} {r} count l start e = record { gives = λ p w. by p w (at p.procs m) refl }
    where
      by : (p : Program Plain) → Shaped t h p → (q : Maybe (Proc Plain)) → at p.procs m ≡ q → r ≡ locals_of (at p.procs m)
      by p w (is q) f =
          let s = others (record_stands concurrent p w.is m f) in
          let same : i + record_size * m + 1 ≡ records_at p + record_size * m + 1 = omega (arith, start, w.records) in
          e ∙ rw same (first s) ∙ sym (ap locals_of f)
      by p w nothing f = nowhere p.procs m (omega (arith, count, l, w.procedures)) f

  -- ---- mains

  -- past the last thread
  pub main_past : {k n r : ℕ} → n ≡ h.threads → n ≤ k → MainAt t h k r
  main_past {k} same l = record { gives = λ p m w e. absurd (omega (arith, same, l, w.threads, at_below p.mains k e)) }

  -- in the table
  pub main_in : {k i n l a r : ℕ} → i ≡ h.records → n ≡ h.procedures → l ≡ h.locations → a ≡ number_at 2 t (i + record_size * n + 2 * l + 2 * k) → r ≡ a
      → MainAt t h k r
  main_in {k} {i} {n} {l} start procs places e same = record {
    gives = λ p m w f.
        let s = main_stands concurrent p w.is k f in
        let place : i + record_size * n + 2 * l + 2 * k ≡ records_at p + record_size * length p.procs + 2 * length p.sizes + 2 * k =
        omega (arith, start, procs, places, w.records, w.procedures, w.locations)
        in
        same ∙ e ∙ rw place (omega (arith, two_bytes m s (main_small p w k m f)));
  }

  -- ---- the places

  -- past the last procedure there is no site
  pub site_past : {m : ℕ} {s : Site} → (limits concurrent).procs ≤ m → SiteAt t h m s
  site_past {m} l = record { gives = λ p q w e. absurd (omega (arith, w.sound.procs.high, at_below p.procs m e)) }

  -- the site of a procedure
  pub site : {m n b l k : ℕ} → LocalsAt t h m n → l ≡ h.locations → k ≡ h.procedures → b ≡ get_or h.starts m 0
      → SiteAt t h m (record { locals = n; pct = l + 1; from = l + 2 + m; home = l + 2 + k + b })
  site {m} {n} {b} {l} {k} L places procs start = record {
    gives = λ p q w e. record {
      locals = L.gives p w ∙ ap locals_of e;
      few = (proc_sound w.sound m q e).locals;
      pct = omega (arith, places, w.locations);
      from = omega (arith, places, w.locations);
      home = λ x. omega (arith, places, procs, w.locations, w.procedures, start, w.starts m (at_below p.procs m e));
    };
  }

-- the locations of size T
pub rows : {h : Shape} {n k : ℕ} → h.procedures < 2 ^ 16 → h.row < 2 ^ 16 → n ≡ h.procedures → k ≡ h.row → RowsAt h (1 + n + k)
rows {h} a b procs row = record {
  gives = λ t p w.
      ap₂ (λ (n k : ℕ). p.sizes ++ (1 ∷ replicate (1 + n + k) (length p.mains))) (sym w.procedures ∙ sym procs) (sym w.row ∙ sym row);
  most = omega arith;
}

-- one law for each way
pub ruleset place_ways = (rows, locals_past, locals_in, main_past, main_in, site_past, site)
