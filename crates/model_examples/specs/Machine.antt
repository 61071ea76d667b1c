-- The worked run as a run of the machine: set_up is accepted, and the asks are steps.
use Rattle.std.specs.Prelude.{◌≡◌, true, false, List, [], ◌∷◌, ℕ, ◌+◌, ◌*◌, ◌<◌}
use Rattle.std.proofs.Math.Path.{refl, ap}
use Rattle.std.proofs.Common.{subst, ◌∙◌, arith}
use Rattle.std.proofs.Math.Option.{none, some}
use Rattle.memory.specs.Ram.{ram_fits}
use Rattle.model.specs.State.{State, page, draining_page, page_count}
use Rattle.model.specs.Translate.{translate}
use Rattle.model.specs.Operations.{Out, refuse, done, check, set_up}
use Rattle.model.specs.Cache.{Caches, nothing_kept, grown, Access, reading, writing, grants, Reach, kept}
use Rattle.model.specs.Machine.{Machine, answer, keeps, settle, call, calls, Run, stop, then, SetUp, Reaches}
use Rattle.model.proofs.Invariant.Holds.{holds}
use Rattle.model.proofs.Invariant.Reaching.{reported, call_keeps, found, reaches_mapped}
use Rattle.model_examples.specs.Runs.{Ask, creates, operation, chosen, after, state_after, begin, sharing, draining, reuse, after_11, after_19, after_32, shared_then, drains_then, handed_on, first_page}

unfoldable pub machine_after : Machine → List Ask → Machine
machine_after m [] = m
machine_after m (a ∷ rest) = machine_after (call m (operation m.state a)) rest

pub asked_run : (m : Machine) (l : List Ask) → Run m (machine_after m l)
unfolding machine_after
asked_run m [] = stop
asked_run m (a ∷ rest) = then (calls (operation m.state a) (chosen m.state a)) (asked_run (call m (operation m.state a)) rest)

settled : (m : Machine) (k : Caches) (o : Out) → (settle m k o).state ≡ after m.state o
unfolding settle after
settled m k (refuse n) = refl
settled m k (done s) = refl

pub asked_state : {s : State} (m : Machine) (l : List Ask) → m.state ≡ s → (machine_after m l).state ≡ state_after s l
unfolding machine_after state_after
asked_state m [] e = e
asked_state {s} m (a ∷ rest) e =
    asked_state {s = after s (answer s (operation s a))} (call m (operation m.state a)) rest
    (unfold call in settled m (keeps m.caches (operation m.state a))
    (answer m.state (operation m.state a)) ∙ ap (λ (u : State). after u (answer u (operation u a))) e)

pub run_then : {m m' z : Machine} → Run m m' → Run m' z → Run m z
run_then stop y = y
run_then (then x r) y = then x (run_then r y)

unfoldable pub machine_0 : Machine
machine_0 = record { state = begin 2; caches = nothing_kept }

pub set_up_0 : SetUp machine_0
unfolding machine_0 begin
set_up_0 = record { b = 0x40000000; n = 16; k = 2; word = λ f i. 1; accepted = unfold set_up check ram_fits in refl; fresh = refl }

unfoldable pub machine_11 : Machine
machine_11 = machine_after machine_0 sharing

unfoldable pub machine_19 : Machine
machine_19 = machine_after machine_11 draining

unfoldable pub machine_32 : Machine
machine_32 = machine_after machine_19 reuse

pub run_11 : Run machine_0 machine_11
unfolding machine_11
run_11 = asked_run machine_0 sharing

pub run_19 : Run machine_0 machine_19
unfolding machine_19
run_19 = run_then run_11 (asked_run machine_11 draining)

pub run_32 : Run machine_0 machine_32
unfolding machine_32
run_32 = run_then run_19 (asked_run machine_19 reuse)

pub state_11 : machine_11.state ≡ after_11
unfolding machine_11 machine_0 after_11
state_11 = asked_state (record { state = begin 2; caches = nothing_kept }) sharing refl

pub state_19 : machine_19.state ≡ after_19
unfolding machine_19 after_19
state_19 = asked_state machine_11 draining state_11

pub state_32 : machine_32.state ≡ after_32
unfolding machine_32 after_32
state_32 = asked_state machine_19 reuse state_19

-- what was kept stays through asks that do not report g's invalidation
abbrev Quiet : ℕ → Ask → Type 0
Quiet g a = (s : State) → reported g (operation s a) ≡ false

abbrev AllQuiet : ℕ → List Ask → Type 0
AllQuiet g [] = Unit {0}
AllQuiet g (a ∷ rest) = Quiet g a × AllQuiet g rest

keeps_on : (m : Machine) (g : ℕ) (l : List Ask) → AllQuiet g l → (v x r : ℕ) → m.caches.page_kept g v x r →
    (machine_after m l).caches.page_kept g v x r
unfolding machine_after
keeps_on m g [] q v x r a = a
keeps_on m g (b ∷ rest) q v x r a = keeps_on (call m (operation m.state b)) g rest q.1 v x r
    (call_keeps m (operation m.state b) g (q.0 m.state) v x r a)

-- after a call the processor has looked at the state that is there
abbrev pub Looked : Machine → Type 1
Looked m = (k : Caches) × (m.caches ≡ grown m.state k)

pub looked : (m : Machine) (a : Ask) (l : List Ask) → Looked (machine_after m (a ∷ l))
unfolding machine_after
looked m a [] = unfold call in go (answer m.state (operation m.state a))
  where
    go : (o : Out) → Looked (settle m (keeps m.caches (operation m.state a)) o)
    go (refuse n) = unfold settle in (m.caches, refl)
    go (done s) = unfold settle in (keeps m.caches (operation m.state a), refl)
looked m a (b ∷ rest) = looked (call m (operation m.state a)) b rest

-- a guest whose tables lead to frame 8 reaches its first byte
pub reaches_8 : {m : Machine} → Run machine_0 m → (s : State) → m.state ≡ s → s.first ≡ 0x40000 → (g v r : ℕ) (w : Access) →
    v < page_count → translate s g v ≡ some (8, r) → grants r w ≡ true → Reaches m g w 0x40008000
reaches_8 {m} run s is first g v r w l e a = subst (λ (x : ℕ). Reaches m g w ((x + 8) * 4096 + 0))
    (ap (λ (s : State). s.first) is ∙ first) (reaches_mapped m (holds set_up_0 run).core g v 8 r w 0 l (rw is e) a (omega arith))

-- guest 1 writes and guest 2 reads frame 8
first_11 : machine_11.state.first ≡ 0x40000
first_11 = ap (λ (s : State). s.first) state_11 ∙ first_page

at_11 : (g v r : ℕ) (w : Access) → v < page_count → translate after_11 g v ≡ some (8, r) → grants r w ≡ true →
    Reaches machine_11 g w 0x40008000
at_11 = reaches_8 run_11 after_11 state_11 first_page

pub owner_writes : (machine_11.state.kind 8 ≡ page 1) × Reaches machine_11 1 writing 0x40008000
owner_writes = (ap (λ (s : State). s.kind 8) state_11 ∙ shared_then.0, at_11 1 0x80000 3 writing (omega arith) shared_then.2 refl)

pub other_reads : Reaches machine_11 2 reading 0x40008000
other_reads = at_11 2 1 1 reading (omega arith) shared_then.3 refl

-- it drains, and the translation that was kept is still there
pub drains : (machine_19.state.kind 8 ≡ draining_page 1) × (translate machine_19.state 1 0x80000 ≡ none)
drains = (ap (λ (s : State). s.kind 8) state_19 ∙ drains_then.0, ap (λ (s : State). translate s 1 0x80000) state_19 ∙ drains_then.1)

kept_11 : machine_11.caches.page_kept 1 0x80000 (machine_11.state.first + 8) 3
unfolding machine_11 sharing
kept_11 = go (looked machine_0 (creates 1) _)
  where
    go : Looked machine_11 → machine_11.caches.page_kept 1 0x80000 (machine_11.state.first + 8) 3
    go l = rw l.1 (unfold grown in found machine_11.state (holds set_up_0 run_11).core l.0 1 0x80000 8 3 (omega arith)
        (rw state_11 shared_then.2))

kept_19 : machine_19.caches.page_kept 1 0x80000 0x40008 3
unfolding machine_19 draining
kept_19 = subst (λ (x : ℕ). (machine_after machine_11 draining).caches.page_kept 1 0x80000 x 3) (ap (λ (x : ℕ). x + 8) first_11)
    (keeps_on machine_11 1 draining quiet 0x80000 (machine_11.state.first + 8) 3 kept_11)
  where
    quiet : AllQuiet 1 draining
    quiet = unfold operation in (λ s. refl, (λ s. refl, (λ s. refl, (λ s. refl, (λ s. refl, (λ s. refl, (λ s. refl, (λ s. refl, tt))))))))

pub stale : Reaches machine_19 1 writing 0x40008000
unfolding Reach
stale = (0x80000, 3, kept kept_19, refl)

pub ends : machine_32.state.kind 8 ≡ page 2
ends = ap (λ (s : State). s.kind 8) state_32 ∙ handed_on
