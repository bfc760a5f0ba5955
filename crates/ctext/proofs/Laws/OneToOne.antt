-- A text has one program: docs/C-TEXT.md, "Text and table are one to one".
use Rattle.std.specs.Prelude.{ℕ, suc, ◌+◌, ◌≤◌, ◌≡◌, refl, List, [], ◌∷◌, ◌++◌, length, get_or}
use Rattle.std.proofs.Common.{arith, sym, ap, subst, ◌∙◌}
use Rattle.value.proofs.Laws.Lists.{Each, each_so}
use Rattle.format.specs.Syntax.{Instr, assign, write, read, while, if, call, atomic, select, Block, end, step}
use Rattle.format.specs.Syntax.{Proc, Program, Plain, concurrent, sequential}
use Rattle.format.specs.Encode.{bodies_of}
use Rattle.format.specs.Rules.{Here, limits}
use Rattle.format.specs.Decode.{max_nesting}
use Rattle.format.proofs.Laws.Fits.{BlockFits}
use Rattle.format.proofs.Laws.Permits.{PermittedI, Permitted, AllPermitted}
use Rattle.format.proofs.Laws.Sound.{LocalsRight, Sound}
use Rattle.format.proofs.Laws.Accepted.{bodies_fit}
use Rattle.format.proofs.Laws.Stands.{Stands, first, front, back, whole}
use Rattle.ctext.specs.Pieces.{say}
use Rattle.ctext.specs.Prelude.{prelude}
use Rattle.ctext.specs.Text.{numbered, location, area, declaration, definition, text}
use Rattle.ctext.proofs.Laws.ExprText.{shift, behind}
use Rattle.ctext.proofs.Laws.LineText.{FlatI, Flat}
use Rattle.ctext.proofs.Laws.FrameText.{LocationsText, locations_same, DeclarationsText, declarations_same}
use Rattle.ctext.proofs.Laws.DefinitionText.{ProcFits, DefinitionsText, definitions_same}

-- ---- a sound program can be said

mutual
  -- in a sequential program no instruction is an atomic block
  flat_i : (h : Here) (s : Instr Plain) → h.kind ≡ sequential → PermittedI h s → FlatI s
  flat_i h (assign x e) k p = tt
  flat_i h (write y o e) k p = tt
  flat_i h (read x y o) k p = tt
  flat_i h (while e b) k p = flat h b k p.1
  flat_i h (if e b c) k p = (flat h b k p.0, flat h c k p.1)
  flat_i h (call m es) k p = tt
  flat_i h (atomic b) k p = let no : sequential ≡ concurrent = sym k ∙ p.0 in let zero_one : ◌≡◌ {A = ℕ} 0 1 = cc in omega arith
  flat_i h (select a b) k p = tt

  -- nor in a block
  flat : (h : Here) (b : Block Plain) → h.kind ≡ sequential → Permitted h b → Flat b
  flat h end k p = tt
  flat h (step a s b) k p = (flat_i h s k p.0, flat h b k p.1)

-- each procedure
procs_fit : (m : ℕ) (ps : List (Proc Plain)) → Each (LocalsRight (limits sequential).locals) ps → Each (BlockFits max_nesting) (bodies_of ps)
    → AllPermitted sequential m (bodies_of ps)
    → Each ProcFits ps
procs_fit m [] l f a = tt
procs_fit m (p ∷ ps) l f a = (
  record { params = l.0.params; locals = omega (arith, l.0.locals); body = f.0; flat = flat _ p.body refl a.0 },
  procs_fit (suc m) ps l.1 f.1 a.1,
)

-- ---- where its parts stand

-- the text of program p is x
pub record ProgramText (x : List ℕ) (p : Program Plain) : Type 0 where
  pub a : ℕ
  pub b : ℕ
  pub c : ℕ
  pub locations : LocationsText x (length prelude) 0 p.sizes a
  pub areas : Stands x (a + 27) (numbered area 0 p.sizes) b
  pub zeros : Stands x b (say "  { 0, 0 }\n};\n\n") (b + 15)
  pub declarations : DeclarationsText x (b + 15) 0 p.procs c
  pub definitions : DefinitionsText x c 0 p.procs (length x)

-- a definition begins with a line feed
begins : {x : List ℕ} {i : ℕ} (ps : List (Proc Plain)) {j : ℕ} → 1 ≤ length ps → Stands x i (numbered definition 0 ps) j → get_or x i 0 ≡ 10
unfolding say
begins [] l s = absurd (omega arith)
begins (p ∷ ps) l s = first s

-- a sound program's text has these parts
pub program_text : {x : List ℕ} (p : Program Plain) → Sound sequential p → x ≡ text p → ProgramText x p
unfolding text say
program_text {x} p sound e =
    let ss : List ℕ = p.sizes in
    let ps : List (Proc Plain) = p.procs in
    let A : List ℕ = numbered location 0 ss in
    let B : List ℕ = numbered area 0 ss in
    let C : List ℕ = numbered declaration 0 ps in
    let D : List ℕ = numbered definition 0 ps in
    let consts : List ℕ = say "const z_area z_areas[] = {\n" in
    let zeros : List ℕ = say "  { 0, 0 }\n};\n\n" in
    let all : Stands x 0 (text p) (length x) = whole e in
    let places : Stands x (length prelude) (A ++ (consts ++ (B ++ (zeros ++ (C ++ D))))) (length x) =
    shift (back prelude (A ++ (consts ++ (B ++ (zeros ++ (C ++ D))))) all) (omega arith)
    in
    let after = back A (consts ++ (B ++ (zeros ++ (C ++ D)))) places in
    let areas = behind consts (B ++ (zeros ++ (C ++ D))) 27 refl after in
    let last = back B (zeros ++ (C ++ D)) areas in
    let procs = behind zeros (C ++ D) 15 refl last in
    let defined = back C D procs in
    let fits = procs_fit 0 ps sound.locals (bodies_fit sequential p sound) sound.allowed in
    record {
      a = _;
      b = _;
      c = _;
      locations = record {
        stands = front A (consts ++ (B ++ (zeros ++ (C ++ D)))) places;
        follows = first after;
        fits = each_so (λ n w. omega (arith, w.high)) ss sound.sizes;
        few = omega (arith, sound.places);
      };
      areas = front B (zeros ++ (C ++ D)) areas;
      zeros = front zeros (C ++ D) last;
      declarations = record {
        stands = front C D procs;
        follows = begins ps sound.procs.low defined;
        fits = each_so (λ q f. omega (arith, f.params, f.locals)) ps fits;
        few = omega (arith, sound.procs.high);
      };
      definitions = record { stands = defined; fits = fits; few = omega (arith, sound.procs.high) };
    }

-- ---- the law

-- a program is what it has
program_same : {p q : Program Plain} → p.procs ≡ q.procs → p.sizes ≡ q.sizes → p.mains ≡ q.mains → p ≡ q
program_same a b c = λ t. record { procs = a t; sizes = b t; mains = c t }

-- T is 0
none : (ms : List ℕ) → length ms ≤ 0 → ms ≡ []
none [] l = refl
none (m ∷ ms) l = absurd (omega arith)

-- TWO SOUND PROGRAMS WITH ONE TEXT ARE ONE PROGRAM.
pub text_unique : (p q : Program Plain) → Sound sequential p → Sound sequential q → text p ≡ text q → p ≡ q
text_unique p q sp sq e =
    let h = program_text p sp refl in
    let g = program_text q sq e in
    let x : List ℕ = text p in
    let sizes = locations_same p.sizes q.sizes h.locations g.locations in
    let areas : h.b ≡ g.b =
    h.areas.ends ∙ ap (λ ss. h.a + 27 + length (numbered area 0 ss)) sizes.0 ∙ ap (λ a. a + 27 + length (numbered area 0 q.sizes)) sizes.1
    ∙ sym g.areas.ends
    in
    let declared =
    declarations_same p.procs q.procs h.declarations
    (subst (λ b. DeclarationsText x (b + 15) 0 q.procs g.c) (sym areas) g.declarations)
    in
    let procs =
    definitions_same p.procs q.procs h.definitions (subst (λ c. DefinitionsText x c 0 q.procs (length x)) (sym declared) g.definitions)
    in
    program_same procs sizes.0 (none p.mains sp.threads.high ∙ sym (none q.mains sq.threads.high))
