-- What is promised of the parts of a text, and of the whole: for whatever program the table is.
use Rattle.std.specs.Prelude.{ℕ, ◌+◌, ◌*◌, ◌-◌, ◌≡◌, List, [], ◌∷◌, ◌++◌, length, get_or, drop}
use Rattle.value.specs.Maybe.{is}
use Rattle.value.specs.Lists.{at, upto}
use Rattle.value.proofs.Laws.Lists.{Each}
use Rattle.format.specs.Syntax.{Block, Proc, Program, Plain, sequential}
use Rattle.format.specs.Encode.{each, bodies_of, table}
use Rattle.format.specs.Encode as E
use Rattle.format.specs.Decode.{max_nesting}
use Rattle.format.proofs.Laws.Fits.{BlockFits}
use Rattle.format.proofs.Laws.Grammar.{BlockAt}
use Rattle.format.proofs.Laws.Sound.{Sound}
use Rattle.format.proofs.Laws.Stands.{Stands}
use Rattle.basics.specs.Places.{number_at}
use Rattle.ctext.specs.Pieces.{say, joined, decimal}
use Rattle.ctext.specs.Prelude.{prelude}
use Rattle.ctext.specs.Text.{var, numbered, location, area, head, argument, unset, declaration, definition, text}
use Rattle.ctext.proofs.Laws.LineText.{Flat}
use Rattle.typeset.specs.declared.pieces.Page.{Page}
use Rattle.typeset.specs.Page.{lent, Put, Onto}
use Rattle.frame.specs.declared.heads.Line.{Line}

-- ---- lines that say two things

-- the number of a location, and its size
abbrev pub sized : Line → ℕ → ℕ → List ℕ
sized w k s = w.before.now ++ (decimal k ++ (w.between.now ++ (decimal s ++ w.behind.now)))

-- a local twice
abbrev pub twice : Line → ℕ → List ℕ
twice w j = w.before.now ++ (var j ++ (w.between.now ++ (var j ++ w.behind.now)))

-- ---- locations

-- the sizes ss stand in t from i on, n of them
pub record SizesAt (t : List ℕ) (i n : ℕ) (ss : List ℕ) : Type 0 where
  pub count : length ss ≡ n
  pub size : (k : ℕ) {s : ℕ} → at ss k ≡ is s → number_at 2 t (i + 2 * k) ≡ s

-- whatever sizes stand there, a piece is set for each
pub record ShowsSizes (item : ℕ → ℕ → List ℕ) (t : List ℕ) (i n : ℕ) (p q : Page) : Type 0 where
  pub shown : (ss : List ℕ) → SizesAt t i n ss → Put p (numbered item 0 ss) q
  pub kept : lent q ≡ lent p

-- those from k on remain
pub record SizesFrom (item : ℕ → ℕ → List ℕ) (t : List ℕ) (i n : ℕ) (p : Page) (k : ℕ) (q : Page) : Type 0 where
  pub onto : (ss : List ℕ) → SizesAt t i n ss → Onto p (numbered item 0 ss) q (numbered item k (drop k ss))
  pub kept : lent q ≡ lent p

-- prelude, locations and areas
pub record ShowsPlaces (t : List ℕ) (i n : ℕ) (p q : Page) : Type 0 where
  pub shown : (ss : List ℕ) → SizesAt t i n ss
      → Put p (prelude ++ (numbered location 0 ss ++ (say "const z_area z_areas[] = {\n" ++ (numbered area 0 ss ++ say "  { 0, 0 }\n};\n\n")))) q
  pub kept : lent q ≡ lent p

-- ---- procedures

-- the records of procedures ps stand in t from i on, n of them
pub record RecordsAt (t : List ℕ) (i n : ℕ) (ps : List (Proc Plain)) : Type 0 where
  pub count : length ps ≡ n
  pub params : (k : ℕ) {q : Proc Plain} → at ps k ≡ is q → get_or t (i + 6 * k) 0 ≡ q.params
  pub locals : (k : ℕ) {q : Proc Plain} → at ps k ≡ is q → get_or t (i + 6 * k + 1) 0 ≡ q.locals

-- their bodies stand there one after the other
pub record BodiesAt (t : List ℕ) (i : ℕ) (ps : List (Proc Plain)) (j : ℕ) : Type 0 where
  pub stands : Stands t i (each E.block (bodies_of ps)) j
  pub fits : Each (λ q. BlockFits max_nesting q.body) ps
  pub flat : Each (λ q. Flat q.body) ps

-- whatever procedures stand there are declared
pub record ShowsDeclarations (t : List ℕ) (i n : ℕ) (p q : Page) : Type 0 where
  pub shown : (ps : List (Proc Plain)) → RecordsAt t i n ps → Put p (numbered declaration 0 ps) q
  pub kept : lent q ≡ lent p

-- those from k on remain
pub record DeclarationsFrom (t : List ℕ) (i n : ℕ) (p : Page) (k : ℕ) (q : Page) : Type 0 where
  pub onto : (ps : List (Proc Plain)) → RecordsAt t i n ps → Onto p (numbered declaration 0 ps) q (numbered declaration k (drop k ps))
  pub kept : lent q ≡ lent p

-- the lines of procedure k before its body
unfoldable pub opening : ℕ → ℕ → ℕ → List ℕ
opening k n l =
    joined (
    say "\n" ∷ head k n ∷ say " {\n  enum { here = " ∷ decimal k ∷ say " };\n" ∷
    each argument (upto 0 n) ∷ each unset (upto n (l - n)) ∷ [])

-- whatever body stands at i, procedure k with it is defined
pub record ShowsDefinition (t : List ℕ) (i k n l : ℕ) (p q : Page) (e : ℕ) : Type 0 where
  pub shown : (b : Block Plain) (j : ℕ) → BlockAt t i max_nesting b j → Flat b
      → Put p (definition {A = Plain} k (record { params = n; locals = l; body = b })) q
  pub ends : (b : Block Plain) (j : ℕ) → BlockAt t i max_nesting b j → Flat b → e ≡ j
  pub kept : lent q ≡ lent p

-- whatever procedures stand there are defined
pub record ShowsDefinitions (t : List ℕ) (i n : ℕ) (p q : Page) : Type 0 where
  pub shown : (ps : List (Proc Plain)) (j : ℕ) → RecordsAt t i n ps → BodiesAt t 0 ps j → Put p (numbered definition 0 ps) q
  pub kept : lent q ≡ lent p

-- those from k on remain, their bodies from i' on
pub record DefinitionsFrom (t : List ℕ) (i n : ℕ) (p : Page) (k i' : ℕ) (q : Page) : Type 0 where
  pub onto : (ps : List (Proc Plain)) (j : ℕ) → RecordsAt t i n ps → BodiesAt t 0 ps j
      → Onto p (numbered definition 0 ps) q (numbered definition k (drop k ps))
  pub bodies : (ps : List (Proc Plain)) (j : ℕ) → RecordsAt t i n ps → BodiesAt t 0 ps j → BodiesAt t i' (drop k ps) j
  pub kept : lent q ≡ lent p

-- ---- the text

-- whatever sound program t is the table of, its text is set: page b became page q
pub record ShowsText (t : List ℕ) (P M : ℕ) (b q : Page) : Type 0 where
  pub shown : (p : Program Plain) → t ≡ table sequential p → Sound sequential p → P ≡ length p.procs → M ≡ length p.sizes → Put b (text p) q
  pub kept : lent q ≡ lent b
