-- `quick::turn::choose` meets its contract.
use Rattle.std.proofs.Common.{rules, ℕ, ◌+◌, ◌/◌, ◌%◌, ◌<◌, ◌≡◌, List, get_or, refl}
use Rattle.basics.specs.Places.{number_at}
use Rattle.decide.specs.Decided.{Tests}
use Rattle.quick.specs.Quick.{Choice}
use Rattle.quick.proofs.Choosing.{Chosen, choosing_start, chooses_holds, choice_ways, choosing_ways}
use Rattle.quick.proofs.turn.choose.Goals as goal

-- what is known of the first test
chosen : {t ls : List ℕ} {fb i h w : ℕ} → Tests t i → Choice t i → h ≡ number_at 4 t i → w ≡ get_or ls (fb + get_or t (i + 3) 0) 0 → w / 4294967296 ≡ 1
    → ((k : ℕ) → get_or t k 0 < 256) → Chosen t ls fb i h (w % 4294967296)
chosen {w = w} m c q e k b = record { mark = m; choice = c; head = q; w = w; word = e; kind = k; same = refl; bytes = b }

pub local-w-requires : goal.local-w-requires
local-w-requires c = search (choice_ways, choosing_ways, rules)

pub returns-then-four-v : goal.returns-then-four-v
returns-then-four-v c =
    chooses_holds (chosen c.requires.0.mark c.requires.1 c.four-head.ensures c.local-w.ensures c.if-w-ne1.false (λ k. (c.type_inv.t k).fits))
    c.four.ensures (search rules) c.if-four-v.true

pub loop-steps-init : goal.loop-steps-init
loop-steps-init c =
    choosing_start (chosen c.requires.0.mark c.requires.1 c.four-head.ensures c.local-w.ensures c.if-w-ne1.false (λ k. (c.type_inv.t k).fits))
    c.four.ensures (search rules) c.if-four-v.false c.other-to.ensures.0 c.other-to.ensures.1 c.requires.4

pub loop-steps-preserved : goal.loop-steps-preserved
loop-steps-preserved c = search (choice_ways, choosing_ways, rules)
