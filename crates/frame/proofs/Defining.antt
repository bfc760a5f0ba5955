-- One law for each way to set declarations and definitions.
use Prim.Native.Nat.{ℕ, suc, ◌+◌, ◌*◌, ◌-◌, ◌≤◌, ◌<◌}
use native.Mathlib.Omega.{arith}
use native.Mathlib.Numerals.{add-one}
use mathlib.Core.Path.{◌≡◌, refl, ◌∙◌}
use mathlib.Core.List.{List, [], ◌∷◌, ◌++◌, append_assoc}
use lib.ListN.{length, get_or, drop, drop_of_length-le}
use lib.Seq.{drop-cons}
use Rattle.value.specs.Lists.{upto}
use Rattle.value.proofs.Laws.Lists.{at_get_d}
use Rattle.format.specs.Syntax.{Block, end, Proc, Plain}
use Rattle.format.specs.Encode.{each, bodies_of}
use Rattle.format.specs.Encode as E
use Rattle.format.specs.Decode.{max_nesting}
use Rattle.format.proofs.Laws.Grammar.{BlockAt}
use Rattle.format.proofs.Laws.Stands.{front, back}
use Rattle.ctext.specs.Pieces.{say, decimal}
use Rattle.ctext.specs.Text.{numbered, head, argument, unset, block, declaration, definition}
use Rattle.typeset.specs.declared.pieces.Page.{Page}
use Rattle.typeset.specs.Page.{Put, Onto}
use Rattle.typeset.proofs.Setting.{put_then, put_same, onto_start, onto_next, onto_end}
use Rattle.lines.specs.Lines.{ShowsBlock}
use Rattle.lines.proofs.Plainly.{lit}
use Rattle.frame.specs.Frames.{RecordsAt, BodiesAt, ShowsDeclarations, DeclarationsFrom, opening, ShowsDefinition, ShowsDefinitions, DefinitionsFrom}

-- a procedure where there is none
abbrev nobody : Proc Plain
nobody = record { params = 0; locals = 0; body = end }

-- ---- declarations

-- one of them
pub declaration_put : {p q r : Page} (k n : ℕ) → Put p (head k n) q → Put q (lit ";\n") r
    → Put p (head k n ++ say ";\n") r
unfolding say
declaration_put k n A B = put_then (head k n) _ A B

module _ {t : List ℕ} {i n : ℕ} {p : Page} where
  -- at the start
  pub declarations_start : DeclarationsFrom t i n p 0 p
  declarations_start = record { onto = λ ps h. onto_start; kept = refl }

  -- one more
  pub declarations_next : {q r : Page} {k m : ℕ} → DeclarationsFrom t i n p k q → k < n → m ≡ get_or t (i + 6 * k) 0
      → Put q (head k m ++ say ";\n") r
      → DeclarationsFrom t i n p (k + 1) r
  declarations_next {q} {r} {k} {m} F l e P = record { onto = onto; kept = P.kept ∙ F.kept }
    where
      onto : (ps : List (Proc Plain)) → RecordsAt t i n ps → Onto p (numbered declaration 0 ps) r (numbered declaration (k + 1) (drop (k + 1) ps))
      onto ps h =
          let here : k < length ps = omega (arith, h.count) in
          let same : m ≡ (get_or ps k nobody).params = e ∙ h.params k (at_get_d ps k nobody here) in
          rw add-one
          (onto_next (declaration k (get_or ps k nobody)) (numbered declaration (suc k) (drop (suc k) ps))
          (rw (drop-cons ps k nobody here) at (F.onto ps h))
          (rw same at P))

  -- no more
  pub declarations_end : {q : Page} {k : ℕ} → DeclarationsFrom t i n p k q → n ≤ k → ShowsDeclarations t i n p q
  declarations_end {k = k} F l = record {
    shown = λ ps h.
        let none : drop k ps ≡ [] = drop_of_length-le ps {i = k} (omega (arith, h.count)) in
        onto_end (rw none at (F.onto ps h));
    kept = F.kept;
  }

-- ---- definitions

-- the lines before a body
pub opening_put : {p q₁ q₂ q₃ q₄ q₅ r : Page} (k n l : ℕ) → Put p (10 ∷ []) q₁ → Put q₁ (head k n) q₂
    → Put q₂ (lit " {\n  enum { here = " ++ decimal k) q₃ → Put q₃ (lit " };\n") q₄ → Put q₄ (each argument (upto 0 n)) q₅
    → Put q₅ (each unset (upto n (l - n))) r
    → Put p (opening k n l) r
unfolding opening say
opening_put k n l A B C D E F =
    put_then (say "\n") _ A
    (put_then (head k n) _ B
    (put_same (append_assoc (say " {\n  enum { here = ") (decimal k) _)
    (put_then (say " {\n  enum { here = " ++ decimal k) _ C (put_then (say " };\n") _ D (put_then (each argument (upto 0 n)) _ E F)))))

-- opening, body and end
whole_definition : (k n l : ℕ) (b : Block Plain)
    → opening k n l ++ (block 1 b ++ say "  z_return();\n}\n") ≡ definition {A = Plain} k (record { params = n; locals = l; body = b })
unfolding opening
whole_definition k n l b = simp append_assoc

-- a definition
pub definition_put : {t : List ℕ} {i : ℕ} {p q r s : Page} {ns : ℕ} (k n l : ℕ) → Put p (opening k n l) q
    → ShowsBlock t i max_nesting 2 q s ns → Put s (lit "  z_return();\n}\n") r
    → ShowsDefinition t i k n l p r ns
unfolding say
definition_put k n l A S B = record {
  shown = λ b j h f. put_same (whole_definition k n l b) (put_then (opening k n l) _ A (put_then (block 1 b) _ (S.shown 1 b j refl h f) B));
  ends = S.ends;
  kept = B.kept ∙ S.kept ∙ A.kept;
}

-- the body of the first of some procedures
first_body : {t : List ℕ} {i : ℕ} {p : Proc Plain} {ps : List (Proc Plain)} {j : ℕ} → BodiesAt t i (p ∷ ps) j
    → BlockAt t i max_nesting p.body (i + length (E.block p.body))
first_body {p = p} {ps} b = record { stands = front (E.block p.body) (each E.block (bodies_of ps)) b.stands; fits = b.fits.0 }

-- it is defined
this_defined : {t : List ℕ} {i k m l : ℕ} {q s : Page} {ns : ℕ} {p : Proc Plain} {ps : List (Proc Plain)} {j : ℕ} → m ≡ p.params
    → l ≡ p.locals → BodiesAt t i (p ∷ ps) j → ShowsDefinition t i k m l q s ns
    → Put q (definition k p) s
this_defined {p = p} e g b D = rw (e, g) at (D.shown p.body _ (first_body b) b.flat.0)

-- and the others stand behind it
others_stand : {t : List ℕ} {i k m l : ℕ} {q s : Page} {ns : ℕ} {p : Proc Plain} {ps : List (Proc Plain)} {j : ℕ}
    → BodiesAt t i (p ∷ ps) j → ShowsDefinition t i k m l q s ns → BodiesAt t ns ps j
others_stand {p = p} {ps} b D =
    let next = D.ends p.body _ (first_body b) b.flat.0 in
    rw next (record { stands = back (E.block p.body) (each E.block (bodies_of ps)) b.stands; fits = b.fits.1; flat = b.flat.1 })

module _ {t : List ℕ} {i n : ℕ} {p : Page} where
  -- at the start
  pub definitions_start : DefinitionsFrom t i n p 0 0 p
  definitions_start = record { onto = λ ps j h b. onto_start; bodies = λ ps j h b. b; kept = refl }

  -- one more
  pub definitions_next : {q : Page} {k i' m l : ℕ} {s : Page} {ns : ℕ} → DefinitionsFrom t i n p k i' q → k < n → m ≡ get_or t (i + 6 * k) 0
      → l ≡ get_or t (i + 6 * k + 1) 0 → ShowsDefinition t i' k m l q s ns
      → DefinitionsFrom t i n p (k + 1) ns s
  definitions_next {q} {k} {i'} {m} {l} {s} F lt e g D = record {
    onto = λ ps j h b.
        let here : k < length ps = omega (arith, h.count) in
        let left : BodiesAt t i' (get_or ps k nobody ∷ drop (suc k) ps) j = rw (drop-cons ps k nobody here) at (F.bodies ps j h b) in
        rw add-one
        (onto_next (definition k (get_or ps k nobody)) (numbered definition (suc k) (drop (suc k) ps))
        (rw (drop-cons ps k nobody here) at (F.onto ps j h b))
        (this_defined (e ∙ h.params k (at_get_d ps k nobody here)) (g ∙ h.locals k (at_get_d ps k nobody here)) left D));
    bodies = λ ps j h b.
        let here : k < length ps = omega (arith, h.count) in
        let left : BodiesAt t i' (get_or ps k nobody ∷ drop (suc k) ps) j = rw (drop-cons ps k nobody here) at (F.bodies ps j h b) in
        rw add-one (others_stand left D);
    kept = D.kept ∙ F.kept;
  }

  -- no more
  pub definitions_end : {q : Page} {k i' : ℕ} → DefinitionsFrom t i n p k i' q → n ≤ k → ShowsDefinitions t i n p q
  definitions_end {k = k} F l = record {
    shown = λ ps j h b.
        let none : drop k ps ≡ [] = drop_of_length-le ps {i = k} (omega (arith, h.count)) in
        onto_end (rw none at (F.onto ps j h b));
    kept = F.kept;
  }

-- one law for each way
pub ruleset define_ways = (
  declaration_put,
  declarations_start,
  declarations_next,
  declarations_end,
  opening_put,
  definition_put,
  definitions_start,
  definitions_next,
  definitions_end,
)
