-- One law for each way through the procedures that simulate the labels.
use Prim.Native.Nat.{ℕ, zero, suc, ◌+◌, ◌*◌, ◌≤◌, ◌<◌}
use native.Mathlib.Omega.{arith}
use native.Mathlib.Decide.{ℕ_discrete}
use native.Mathlib.Numerals.{add-one}
use mathlib.Core.Path.{◌≡◌, refl, sym, ap, subst, ◌∙◌}
use mathlib.Core.List.{List, [], ◌∷◌, ◌++◌, append-nil, append_assoc}
use mathlib.Core.Bool.{true, false}
use lib.ListN.{length, get_or, set, take, drop, length-set}
use lib.Seq.{take_all, get_or-set_same, get_or-set_other}
use Rattle.value.specs.Maybe.{is}
use Rattle.value.specs.Values.{unbytes}
use Rattle.basics.specs.Places.{number_at}
use Rattle.value.specs.Lists.{at}
use Rattle.basics.specs.Laws.Places.{number_at_lem}
use Rattle.value.proofs.Laws.Lists.{Each, each_at, at_get_d}
use Rattle.value.proofs.Laws.Maybes.{is_inj, missing}
use Rattle.format.specs.Syntax.{Expr, Instr, assign, write, read, while, if, call, atomic, select, Block, end, step, ◌⊕◌, Proc, Program, concurrent}
use Rattle.format.specs.Syntax as S
use Rattle.format.specs.Encode.{instr, block, bodies_of}
use Rattle.format.specs.Decode.{no_form, forms, max_nesting}
use Rattle.format.specs.Labels.{first, count, counts, label, labels, labelled}
use Rattle.format.specs.Rules.{named, allowed, Here, limits, max_labels, max_locals}
use Rattle.labels.specs.LabelMap.{Node, Mapped, node_of, next, other}
use Rattle.format.proofs.Laws.Stands.{Stands, inside, front}
use Rattle.format.proofs.Laws.Stands as St
use Rattle.format.proofs.Laws.Grammar.{InstrAt, WhileAt, IfAt, CallAt, while_here, if_here, call_here, no_instr, instr_inside}
use Rattle.format.proofs.Laws.Fits.{BlockFits}
use Rattle.format.proofs.Laws.Names.{names?}
use Rattle.format.proofs.Laws.Sound.{Sound}
use Rattle.format.proofs.Laws.Labelled.{named_label, allowed_label, fits_label}
use Rattle.format.proofs.Laws.Accepted.{bodies_fit}
use Rattle.format.proofs.Laws.Procs.{body_at_lem, ProcSound, proc_sound}
use Rattle.labels.specs.Laws.Spots.{spot_has, allowed_inherited, code_stands, bodies_labels}
use Rattle.format.proofs.Laws.TablePlaces.{records_at, all_bodies}
use Rattle.labels.specs.Laws.LabelMap.{NodeOf, node_of_lem, node_there}
use Rattle.translation.specs.Layout.{Layout, layout_in, locals_of}
use Rattle.translation.specs.Code.{calls, code}
use Rattle.translation.specs.Translate.{ends_of, begins, later_in}
use Rattle.basics.specs.Sizes.{too_long}
use Rattle.writer.specs.declared.page.Page.{Page}
use Rattle.writer.specs.Laws.Pages.{PutsBlock}
use Rattle.emit.specs.Laws.Sources.{Low, Sited, ExprsOf, Tests, Calls, Steps, Returns}
use Rattle.emit.specs.Laws.Shapes.{Shaped, SiteAt}
use Rattle.simulation.specs.Laws.Bodies.{OfLabel, Leads, Begun, BeginAt, CallsAt, PutsNode, label_code, simulated, PutsLabel}
use Rattle.simulation.specs.Laws.Bodies.{bodies, KeptAt, Simulating, PutsBodies}
use Rattle.emit.specs.declared.layout.Shape.{Shape}
use Rattle.emit.specs.declared.layout.Site.{Site}
use Rattle.writer.proofs.Paging.{puts_then, puts_same}
use Rattle.simulation.proofs.Nodes.{fits_inherited, named_inherited, of_label, later_at, length_later}

-- ---- calls

module _ {t : List ℕ} {i : ℕ} {h : Shape} {bounds : List ℕ} {s : Site} where
  -- a call
  pub call_at : {next a f b n : ℕ} {c : Site} {o o' : Page} → a ≡ number_at 2 t (i + 1) → f ≡ a → BeginAt bounds f b → n ≡ get_or t (i + 3) 0
      → SiteAt t h f c
      → Calls t (i + 4) n s c b next o o' → CallsAt t i h bounds s next o o'
  call_at {next} {a} {f} {b} {n} {c} {o} {o'} callee wide begin count site C = record {
    gives = λ q m z g j es w begun here at less low. gives q m z g j es w begun here less low (call_here at (St.first at.stands));
  }
    where
      gives : (q : Program S.Plain) (m z g j : ℕ) (es : List Expr) → Shaped t h q → Begun q bounds → Sited (layout_in h.mode q) m z s
          → g < length q.procs → Each (Low z) es → CallAt {A = ℕ} t i max_nesting (call g es) j
          → PutsBlock o (calls (layout_in h.mode q) m z g es (begins q g) next) o'
      gives q m z g j es w begun here less low v =
          let same : ◌≡◌ {A = Instr ℕ} (call g es) (call (unbytes (take 2 (drop (i + 1) t))) v.es) = v.is in
          let args : es ≡ v.es = cc in
          let name : g ≡ f = cc (number_at_lem 2 t (i + 1)) in
          let few : g < (limits concurrent).procs = omega (arith, less, w.sound.procs.high) in
          let found : at q.procs f ≡ is (get_or q.procs f dummy) = at_get_d q.procs f dummy (omega (arith, less, name)) in
          let first : b ≡ begins q g =
          begin.gives (omega (arith, few, name)) ∙ begun.begins f (omega (arith, less, name)) ∙ ap (begins q) (sym name)
          in
          let all : ExprsOf t (i + 4) n z es j = record { stand = rw (count, args) v.args; low = low } in
          rw (name) (rw (first, name) at (C.gives (layout_in h.mode q) m z f _ es j here (site.gives q _ w found) all))
        where
          dummy : Proc S.Plain
          dummy = record { params = 0; locals = 0; body = end }

  -- ---- what stands at a place

  -- the table ends
  pub node_past : {next other : ℕ} {o o' : Page} → length t ≤ i → PutsNode t i h bounds s next other o o'
  node_past l = record {
    ends = λ G m n here inside b. absurd (omega (arith, l, inside));
    gives = λ q m n z k j a w begun here at ok lead. absurd (omega (arith, l, (instr_inside at).0, (instr_inside at).1));
  }

  -- an end label
  pub node_end : {next other : ℕ} {o o' : Page} → get_or t i 0 ≡ 0 → Returns s o o' → PutsNode t i h bounds s next other o o'
  node_end b R = record {
    ends = λ G m n here inside z. R.gives G m n here;
    gives = λ q m n z k j a w begun here at ok lead. absurd (no_instr at (ap (λ (x : ℕ). get_or forms x no_form) b));
  }

  -- a while
  pub node_while : {next other : ℕ} {o o' : Page} → get_or t i 0 ≡ 0x23 → Tests t (i + 1) s next other o o'
      → PutsNode t i h bounds s next other o o'
  node_while {next} {other} {o} {o'} b T = record {
    ends = λ G m n here inside z. absurd (omega (arith, b, z));
    gives = λ q m n z k j a w begun here at ok lead. gives q m n z k j a here ok lead (while_here at b);
  }
    where
      gives : (q : Program S.Plain) (m n l k j : ℕ) (a : Instr ℕ) → Sited (layout_in h.mode q) m n s → OfLabel q n a → Leads l a k next other
          → WhileAt t i max_nesting a j
          → PutsBlock o (code (layout_in h.mode q) m n (begins q) l a k) o'
      gives q m n l k j a here ok lead v =
          let low : Low n v.e = rw v.is at ok in
          let to : (next ≡ first l v.b) × (other ≡ k) = rw v.is at lead in
          rw (v.is, ← to.0, ← to.1) (T.gives (layout_in h.mode q) m n v.e v.k here (record { stands = v.test; low = low }))

  -- an if
  pub node_if : {next other : ℕ} {o o' : Page} → get_or t i 0 ≡ 0x24 → Tests t (i + 1) s next other o o'
      → PutsNode t i h bounds s next other o o'
  node_if {next} {other} {o} {o'} b T = record {
    ends = λ G m n here inside z. absurd (omega (arith, b, z));
    gives = λ q m n z k j a w begun here at ok lead. gives q m n z k j a here ok lead (if_here at b);
  }
    where
      gives : (q : Program S.Plain) (m n l k j : ℕ) (a : Instr ℕ) → Sited (layout_in h.mode q) m n s → OfLabel q n a → Leads l a k next other
          → IfAt t i max_nesting a j → PutsBlock o (code (layout_in h.mode q) m n (begins q) l a k) o'
      gives q m n l k j a here ok lead v =
          let low : Low n v.e = rw v.is at ok in
          let to : (next ≡ first k v.b) × (other ≡ first k v.c) = rw v.is at lead in
          rw (v.is, ← to.0, ← to.1) (T.gives (layout_in h.mode q) m n v.e v.k here (record { stands = v.test; low = low }))

  -- a call
  pub node_call : {next other : ℕ} {o o' : Page} → get_or t i 0 ≡ 0x25 → CallsAt t i h bounds s next o o'
      → PutsNode t i h bounds s next other o o'
  node_call {next} {other} {o} {o'} b C = record {
    ends = λ G m n here inside z. absurd (omega (arith, b, z));
    gives = λ q m n z k j a w begun here at ok lead. gives q m n z k j a w begun here at ok lead (call_here at b);
  }
    where
      gives : (q : Program S.Plain) (m n l k j : ℕ) (a : Instr ℕ) → Shaped t h q → Begun q bounds → Sited (layout_in h.mode q) m n s
          → InstrAt t i max_nesting a j → OfLabel q n a
          → Leads l a k next other → CallAt t i max_nesting a j → PutsBlock o (code (layout_in h.mode q) m n (begins q) l a k) o'
      gives q m n l k j a w begun here at ok lead v =
          let f : ℕ = unbytes (take 2 (drop (i + 1) t)) in
          let ok' : (f < length q.procs) × Each (Low n) v.es = rw v.is at ok in
          let to : next ≡ k = rw v.is at lead in
          rw (v.is, ← to) (C.gives q m n f j v.es w begun here (rw v.is at at) ok'.0 ok'.1)

  -- another instruction
  pub node_step : {next other : ℕ} {o o' : Page} → (get_or t i 0 ≡ 0 → ⊥) → (get_or t i 0 ≡ 0x23 → ⊥) → (get_or t i 0 ≡ 0x24 → ⊥)
      → (get_or t i 0 ≡ 0x25 → ⊥)
      → Steps t i s next o o' → PutsNode t i h bounds s next other o o'
  node_step {next} {other} {o} {o'} b₀ b₁ b₂ b₃ C = record {
    ends = λ G m n here inside z. absurd (b₀ z);
    gives = λ q m n l k j a w begun here at ok lead. gives q m n l k j a here at ok lead;
  }
    where
      gives : (q : Program S.Plain) (m n l k j : ℕ) (a : Instr ℕ) → Sited (layout_in h.mode q) m n s → InstrAt t i max_nesting a j → OfLabel q n a
          → Leads l a k next other
          → PutsBlock o (code (layout_in h.mode q) m n (begins q) l a k) o'
      gives q m n l k j (assign x e) here at ok to = rw (← to) (C.gives (layout_in h.mode q) m n (begins q) l (assign x e) j here at ok)
      gives q m n l k j (write y a e) here at ok to = rw (← to) (C.gives (layout_in h.mode q) m n (begins q) l (write y a e) j here at ok)
      gives q m n l k j (read x y a) here at ok to = rw (← to) (C.gives (layout_in h.mode q) m n (begins q) l (read x y a) j here at ok)
      gives q m n l k j (while e c) here at ok to = absurd (b₁ (St.first at.stands))
      gives q m n l k j (if e c d) here at ok to = absurd (b₂ (St.first at.stands))
      gives q m n l k j (call f es) here at ok to = absurd (b₃ (St.first at.stands))
      gives q m n l k j (atomic c) here at ok to = rw (← to) (C.gives (layout_in h.mode q) m n (begins q) l (atomic c) j here at ok)
      gives q m n l k j (select x y) here at ok to = absurd ok

-- ---- a label

-- a labelled procedure, and the procedure itself
labels_found : (ps : List (Proc S.Plain)) (l m : ℕ) {g : Proc ℕ} → at (labels l ps) m ≡ is g
    → (f : Proc S.Plain) × (k : ℕ) × (at ps m ≡ is f) × (g.body ≡ label k f.body)
labels_found [] l m e = missing e
labels_found (p ∷ ps) l zero e = (p, l, refl, ap (λ (x : Proc ℕ). x.body) (sym (is_inj e)))
labels_found (p ∷ ps) l (suc m) e = labels_found ps (l + suc (count p.body)) m e

-- the labels that the map gives are those that an instruction leads to
leads_map : (q : Program S.Plain) (n l k N O : ℕ) (a : Instr ℕ) (c : Block ℕ) → OfLabel q n a → N ≡ next k (step l a c) → O ≡ other k (step l a c)
    → Leads l a (first k c) N O
leads_map q n l k N O (assign x e) c ok p r = p
leads_map q n l k N O (write y o e) c ok p r = p
leads_map q n l k N O (read x y o) c ok p r = p
leads_map q n l k N O (while e b) c ok p r = (p, r)
leads_map q n l k N O (if e b d) c ok p r = (p, r)
leads_map q n l k N O (call f es) c ok p r = p
leads_map q n l k N O (atomic b) c ok p r = p
leads_map q n l k N O (select x y) c ok p r = absurd ok

-- in the body of procedure m
abbrev outer : ℕ → Here
outer m = record { kind = concurrent; proc = m; inside = false }

-- as many labelled procedures
length_labels : (ps : List (Proc S.Plain)) (l : ℕ) → length (labels l ps) ≡ length ps
length_labels [] l = refl
length_labels (p ∷ ps) l = ap suc (length_labels ps (l + suc (count p.body)))

module _ {t : List ℕ} {h : Shape} {map bounds : List ℕ} where
  -- the map says what stands where
  pub label_one : {l : ℕ} {s : Site} {o o' : Page} → SiteAt t h (get_or map (4 * l + 1) 0) s
      → PutsNode t (get_or map (4 * l) 0) h bounds s (get_or map (4 * l + 2) 0) (get_or map (4 * l + 3) 0) o o' → PutsLabel t h map bounds l o o'
  label_one {l} {s} {o} {o'} site N = record { gives = λ q d w m e. gives q d w m e (node_of_lem q l e) }
    where
      gives : (q : Program S.Plain) (d : Node) → Shaped t h q → Mapped q map bounds → node_of q l ≡ is d → NodeOf q l d
          → PutsBlock o (simulated h.mode q d).body o'
      gives q d w mapped e v = by v.left refl
        where
          found : (f : Proc S.Plain) × (k : ℕ) × (at q.procs d.proc ≡ is f) × (v.spot.proc.body ≡ label k f.body)
          found = labels_found q.procs 1 d.proc v.spot.found

          f : Proc S.Plain
          f = found.0

          here : Sited (layout_in h.mode q) d.proc f.locals s
          here = rw (mapped.proc l d e) at (site.gives q f w (ap (at q.procs) (mapped.proc l d e) ∙ found.2))

          n : ℕ
          n = f.locals

          locals : locals_of (at q.procs d.proc) ≡ n
          locals = ap locals_of found.2

          place : get_or map (4 * l) 0 ≡ d.place
          place = mapped.place l d e

          -- what stands there
          code_there : Stands t (get_or map (4 * l) 0) (block v.left) (d.place + length (block v.left))
          code_there =
              rw place
              (code_stands (subst (λ (bs : List ℕ). Stands t 0 bs (records_at q)) (sym (bodies_labels q.procs 1))
              (all_bodies concurrent q w.is)) v.spot)

          -- what the body has, the code there has
          sound : ProcSound concurrent q d.proc f
          sound = proc_sound w.sound d.proc f found.2

          fits : BlockFits max_nesting v.left
          fits =
              spot_has (fits_inherited max_nesting) v.spot.spot
              (subst (λ (b : Block ℕ). BlockFits max_nesting b) (sym found.3) (fits_label f.body found.1
              (each_at (BlockFits max_nesting) (bodies_of q.procs) d.proc (bodies_fit concurrent q w.sound)
              (body_at_lem q.procs d.proc found.2))))

          named' : named (labelled q) n v.left ≡ true
          named' =
              spot_has (named_inherited (labelled q) n) v.spot.spot
              (subst (λ (b : Block ℕ). named (labelled q) n b ≡ true) (sym found.3)
              (named_label q f.body found.1 n ∙ (names? q n f.body).of sound.named))

          allowed' : allowed (outer d.proc) v.left ≡ true
          allowed' =
              spot_has (allowed_inherited (outer d.proc)) v.spot.spot
              (subst (λ (b : Block ℕ). allowed (outer d.proc) b ≡ true) (sym found.3)
              (allowed_label q f.body found.1 (outer d.proc) ∙ sound.allowed))

          G : Layout
          G = layout_in h.mode q

          -- the code of the label, by what remains there
          coded : {c : Block ℕ} → d.code ≡ c → PutsBlock o (label_code G (begins q) d.proc n (ends_of q d.proc) c) o'
              → PutsBlock o (simulated h.mode q d).body o'
          coded e P =
              subst (λ (z : ℕ). PutsBlock o (label_code G (begins q) d.proc z (ends_of q d.proc) d.code) o') (sym locals)
              (subst (λ (c : Block ℕ). PutsBlock o (label_code G (begins q) d.proc n (ends_of q d.proc) c) o') (sym e) P)

          by : (b : Block ℕ) → v.left ≡ b → PutsBlock o (simulated h.mode q d).body o'
          by end c =
              let none : d.code ≡ end = v.code ∙ ap (λ (x : Block ℕ). x ⊕ v.after) c ∙ v.ends c in
              let there : Stands t (get_or map (4 * l) 0) (block {A = ℕ} end) (d.place + length (block v.left)) =
              subst (λ (b : Block ℕ). Stands t (get_or map (4 * l) 0) (block b) (d.place + length (block v.left))) c code_there
              in
              coded none (N.ends G d.proc n here (inside there) (St.first there))
          by (step k a rest) c =
              let some : d.code ≡ step k a (rest ⊕ v.after) = v.code ∙ ap (λ (x : Block ℕ). x ⊕ v.after) c in
              let there : Stands t (get_or map (4 * l) 0) (block (step k a rest)) (d.place + length (block v.left)) =
              subst (λ (b : Block ℕ). Stands t (get_or map (4 * l) 0) (block b) (d.place + length (block v.left))) c code_there
              in
              let fits' : BlockFits max_nesting (step k a rest) = subst (λ (b : Block ℕ). BlockFits max_nesting b) c fits in
              let names : named (labelled q) n (step k a rest) ≡ true = subst (λ (b : Block ℕ). named (labelled q) n b ≡ true) c named' in
              let may : allowed (outer d.proc) (step k a rest) ≡ true = subst (λ (b : Block ℕ). allowed (outer d.proc) b ≡ true) c allowed' in
              let ok : OfLabel q n a =
              of_label (labelled q) n d.proc q (length_labels q.procs 1) a ((named_inherited (labelled q) n).first k a rest names)
              ((allowed_inherited (outer d.proc)).first k a rest may)
              in
              let K : ℕ = ends_of q d.proc in
              let lead : Leads k a (first K (rest ⊕ v.after)) (get_or map (4 * l + 2) 0) (get_or map (4 * l + 3) 0) =
              leads_map q n k K _ _ a (rest ⊕ v.after) ok (mapped.next l d e ∙ ap (next K) some) (mapped.other l d e ∙ ap (other K) some)
              in
              let at : InstrAt t (get_or map (4 * l) 0) max_nesting a (get_or map (4 * l) 0 + length (instr a)) =
              record { stands = front (instr a) (block rest) there; fits = (fits_inherited max_nesting).first k a rest fits' }
              in
              coded some
              (N.gives q d.proc n k (first K (rest ⊕ v.after)) _ a w (record { begins = mapped.begins }) here at ok lead)

-- the locals of a label's procedure are few
pub node_locals : (q : Program S.Plain) (l : ℕ) {d : Node} → Sound concurrent q → node_of q l ≡ is d → locals_of (at q.procs d.proc) ≤ max_locals
node_locals q l {d} sound e =
    let v = node_of_lem q l e in
    let found = labels_found q.procs 1 d.proc v.spot.found in
    rw found.2 (proc_sound sound d.proc found.0 found.2).locals

-- ---- all labels

-- the bodies of two rows of procedures
pub bodies_append : (ps qs : List (Proc S.Plain)) → bodies (ps ++ qs) ≡ bodies ps ++ bodies qs
bodies_append [] qs = refl
bodies_append (p ∷ ps) qs = ap (block p.body ++◌) (bodies_append ps qs) ∙ sym (append_assoc (block p.body) (bodies ps) (bodies qs))

-- one more of a list
pub take_more : {A : Type 0} (xs : List A) (i : ℕ) {x : A} → at xs i ≡ is x → take (i + 1) xs ≡ take i xs ++ (x ∷ [])
take_more xs i {x} e = rw add-one (go xs i e)
  where
    go : (xs : List _) (i : ℕ) → at xs i ≡ is x → take (suc i) xs ≡ take i xs ++ (x ∷ [])
    go [] i e = missing e
    go (y ∷ xs) zero e = ap (λ z. z ∷ []) (is_inj e)
    go (y ∷ xs) (suc i) e = ap (y ∷◌) (go xs i e)

module _ {t : List ℕ} {h : Shape} {map bounds : List ℕ} where
  -- one more
  pub simulating_next : {offsets : List ℕ} {o o₁ o₂ : Page} {k labels place z : ℕ} → Simulating t h map bounds offsets k o o₁ → labels ≡ h.labels
      → k < labels → h.labels ≤ max_labels → place ≡ o₁.at → KeptAt place z → PutsLabel t h map bounds (k + 1) o₁ o₂
      → Simulating t h map bounds (set offsets k z) (k + 1) o o₂
  simulating_next {offsets} {o} {o₁} {o₂} {k} {labels} {place} {z} D all less few here K L = record {
    done = λ q w m.
        let d = node_there q (suc k) (omega arith) (omega (arith, w.labels)) in
        let f : Proc S.Plain = simulated h.mode q d.0 in
        let all : List (Proc S.Plain) = later_in h.mode q in
        let one : PutsBlock o₁ f.body o₂ = L.gives q d.0 w m (ap (node_of q) (add-one k) ∙ d.1) in
        let more : bodies (take (k + 1) all) ≡ bodies (take k all) ++ block f.body =
        ap bodies (take_more all k (later_at h.mode q k d.1)) ∙ bodies_append (take k all) (f ∷ [])
        ∙ ap (bodies (take k all) ++◌) (append-nil (block f.body))
        in
        puts_same (sym more) (puts_then (bodies (take k all)) (block f.body) (D.done q w m) one.puts);
    places = λ q w m. record { at = λ i l room. places q w m i l room };
    long = length-set offsets k z ∙ D.long;
  }
    where
      places : (q : Program S.Plain) → Shaped t h q → Mapped q map bounds → (i : ℕ) → i < k + 1
          → o.at + length (bodies (take i (later_in h.mode q))) ≤ too_long
          → get_or (set offsets k z) i 0 ≡ o.at + length (bodies (take i (later_in h.mode q)))
      places q w m i l room = elim (ℕ_discrete i k) [
        | yes e ↦
            let room' : o.at + length (bodies (take k (later_in h.mode q))) ≤ too_long = rw e at room in
            let begins-at : place ≡ o.at + length (bodies (take k (later_in h.mode q))) = here ∙ (D.done q w m).puts.next room' in
            rw e (get_or-set_same offsets k z 0 (omega (arith, D.long, all, less, few)) ∙ K.gives (omega arith) ∙ begins-at)
        | no n ↦ get_or-set_other offsets k i z 0 n ∙ (D.places q w m).at i (omega arith) room
      ]

  -- after the last
  pub simulating_end : {offsets : List ℕ} {o o' : Page} {k labels : ℕ} → Simulating t h map bounds offsets k o o' → labels ≡ h.labels → labels ≤ k
      → k ≤ labels → PutsBodies t h map bounds offsets o o'
  simulating_end {offsets} {o} {o'} {k} D count more most = record {
    gives = λ q w m.
        let all : List (Proc S.Plain) = later_in h.mode q in
        let same : take k all ≡ all = take_all k all (omega (arith, length_later h.mode q, count, more, w.labels)) in
        puts_same (ap bodies same) (D.done q w m);
    places = λ q w m. let last : k ≡ counts q.procs = omega (arith, count, more, most, w.labels) in rw (← last) (D.places q w m);
  }

-- one law for each way
pub ruleset simulate_ways = (
  call_at,
  node_past,
  node_end,
  node_while,
  node_if,
  node_call,
  node_step,
  label_one,
  simulating_next,
  simulating_end,
)
