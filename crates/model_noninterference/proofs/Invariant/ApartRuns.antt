-- Two machines, each after a run from set_up, and what corresponds for g in each direction: steps apart and together keep it.
use mathlib.Core.Path.{◌≡◌, refl, sym, ap, ◌∙◌}
use mathlib.Core.Bool.{true, false}
use mathlib.Core.Logic.{inl, inr}
use mathlib.Core.Option.{Option, none, some}
use Prim.Native.Nat.{ℕ, ◌+◌, ◌/◌}
use native.Mathlib.Omega.{arith}
use Rattle.model.specs.State.{State, monitor, free, draining_table}
use Rattle.model.specs.Translate.{Page, translate}
use Rattle.model.specs.Operations.{Out, refuse, done, at_first, started}
use Rattle.model.specs.Cache.{nothing_kept, kept, grown}
use Rattle.model.specs.Machine.{Machine, Operation, answer, Chooses, keeps, settle, call, write, stop, SetUp}
use Rattle.model_noninterference.specs.TwoRunsTerms.{shown, SameBytes, answered}
use Rattle.model_noninterference.specs.ApartTerms.{Frames, after, Apart, first_calls, second_calls, both_call, first_stores, second_stores, both_store, RunsApart, stop as stop_apart, then as then_apart, no_frames, Reads, ReadsNow}
use Rattle.model.proofs.Invariant.Kinds.{clash}
use Rattle.model.proofs.Invariant.Effects.{nobody_translates}
use Rattle.model_noninterference.proofs.Invariant.Alike.{started_is, started_kind, set_up_closed}
use Rattle.model_noninterference.proofs.Invariant.Apart.{role, role_of}
use Rattle.model_noninterference.proofs.Invariant.ApartKept.{Sane}
use Rattle.model_noninterference.proofs.Invariant.ApartSteps.{same_view, Unseen, Called, called, called_unseen, written_view, written_unseen, sane_called, sane_written, shown_role, is_shown}
use Rattle.model_noninterference.proofs.Invariant.ApartFrames.{flip, Covers, covers_iff, covers_view, covers_unseen, both_stored}
use Rattle.model_noninterference.proofs.Invariant.ApartAnswers.{mirror, covers_again}

pub record Seen (g : ℕ) (R : Frames) (y z : Machine) : Type 1 where
  pub first : Sane y
  pub second : Sane z
  pub covers : Covers g R y z
  pub back : Covers g (flip R) z y

unseen_same : (g : ℕ) (m : Machine) → Unseen g m m
unseen_same g m = record { view = same_view g m; bytes = λ f n i l. refl }

-- an operation that is answered 0
pub done_is : (x : Out) → answered x ≡ true → (s : State) × (x ≡ done s)
done_is (refuse n) e = let z : ◌≡◌ {A = ℕ} 0 1 = cc in absurd (omega arith)
done_is (done s) e = (s, refl)

call_is : (m : Machine) (o : Operation) (s : State) → answer m.state o ≡ done s →
    call m o ≡ record { state = s; caches = grown s (keeps m.caches o) }
unfolding call settle
call_is m o s e = rw e

answered_is : (m : Machine) (o : Operation) → answered (answer m.state o) ≡ true → answer m.state o ≡ done (call m o).state
answered_is m o a =
    let d = done_is (answer m.state o) a in
    d.1 ∙ ap (λ (x : Machine). done x.state) (sym (call_is m o d.0 d.1))

answered_called : (g : ℕ) {m : Machine} → Sane m → (o : Operation) → Chooses m.state o → answered (answer m.state o) ≡ true →
    Called g m o (call m o)
answered_called g {m} x o ch a =
    let d = done_is (answer m.state o) a in
    rw (call_is m o d.0 d.1) (called g x o ch d.0 d.1)

pub step_apart : {g : ℕ} {R : Frames} {y z : Machine} {R' : Frames} {y' z' : Machine} → Apart g R y z R' y' z' → Seen g R y z →
    Seen g R' y' z'
step_apart {g} (first_calls {R} {y} {z} o ch w) p =
    let u = called_unseen g p.first o ch w in
    record {
      first = sane_called p.first o ch;
      second = p.second;
      covers = covers_unseen g R u (unseen_same g z) p.covers;
      back = covers_unseen g (flip R) (unseen_same g z) u p.back;
    }
step_apart {g} (second_calls {R} {y} {z} o ch w) p =
    let u = called_unseen g p.second o ch w in
    record {
      first = p.first;
      second = sane_called p.second o ch;
      covers = covers_unseen g R (unseen_same g y) u p.covers;
      back = covers_unseen g (flip R) u (unseen_same g y) p.back;
    }
step_apart {g} (first_stores {R} {y} {z} h f o x r e) p =
    let u = written_unseen g p.first r e in
    record {
      first = sane_written p.first r;
      second = p.second;
      covers = covers_unseen g R u (unseen_same g z) p.covers;
      back = covers_unseen g (flip R) (unseen_same g z) u p.back;
    }
step_apart {g} (second_stores {R} {y} {z} h f o x r e) p =
    let u = written_unseen g p.second r e in
    record {
      first = p.first;
      second = sane_written p.second r;
      covers = covers_unseen g R (unseen_same g y) u p.covers;
      back = covers_unseen g (flip R) u (unseen_same g y) p.back;
    }
step_apart {g} (both_store {R} {y} {z} h h' f f' o x r r' w) p = record {
  first = sane_written p.first r;
  second = sane_written p.second r';
  covers = covers_view g R (written_view g p.first r) (written_view g p.second r')
      (unfold write in both_stored g R y z p.covers p.back f f' o x r.is_byte w) p.covers;
  back = covers_view g (flip R) (written_view g p.second r') (written_view g p.first r)
      (unfold write in both_stored g (flip R) z y p.back p.covers f' f o x r.is_byte w) p.back;
}
step_apart {g} (both_call {R} {y} {z} o o' ch ch' a a' ma) p = record {
  first = sy;
  second = sz;
  covers = covers_again g R y z p.covers p.back ma (call y o) (call z o') (answered_is y o a) (answered_is z o' a') sy sz cy cz;
  back = covers_iff g (after g (flip R) o' o (call z o').state (call y o).state)
      (flip (after g R o o' (call y o).state (call z o').state)) (call z o') (call y o)
      (λ f f' x. (elim x.0 [ inl w ↦ inl w | inr w ↦ inr (w.1, w.0) ], x.2, x.1))
      (λ f f' x. (elim x.0 [ inl w ↦ inl w | inr w ↦ inr (w.1, w.0) ], x.2, x.1))
      (covers_again g (flip R) z y p.back p.covers (mirror g R y.state z.state ma) (call z o') (call y o)
      (answered_is z o' a') (answered_is y o a) sz sy cz cy);
}
  where
    sy : Sane (call y o)
    sy = sane_called p.first o ch

    sz : Sane (call z o')
    sz = sane_called p.second o' ch'

    cy : Called g y o (call y o)
    cy = answered_called g p.first o ch a

    cz : Called g z o' (call z o')
    cz = answered_called g p.second o' ch' a'

pub run_apart : {g : ℕ} {R R' : Frames} {y z y' z' : Machine} → RunsApart g R y z R' y' z' → Seen g R y z → Seen g R' y' z'
run_apart stop_apart p = p
run_apart (then_apart x r) p = run_apart r (step_apart x p)

-- right after set-up: g has nothing
nothing_yet : {m : Machine} (x : SetUp m) → m.state ≡ started x.b x.n x.k x.word
nothing_yet {m} x = started_is true x.b x.n x.k x.word m.state x.accepted

no_role : {m : Machine} → SetUp m → (g f : ℕ) → role_of m.state g f ≡ 0
no_role {m} x g f = rw (nothing_yet x) (unfold started in go)
  where
    go : role g (at_first x.n x.k f) 0 ≡ 0
    go = elim (started_kind x.n x.k f) [ inl e ↦ rw e | inr e ↦ rw e ]

no_draining : {m : Machine} → SetUp m → (t g h p : ℕ) → m.state.kind t ≡ draining_table g h p → ⊥
no_draining {m} x t g h p e = go (ap (λ (s : State). s.kind t) (sym (nothing_yet x)) ∙ e)
  where
    go : (started x.b x.n x.k x.word).kind t ≡ draining_table g h p → ⊥
    go q = unfold started in elim (started_kind x.n x.k t) [
      | inl a ↦ clash {x = monitor} {y = draining_table g h p} (sym a ∙ q) refl
      | inr a ↦ clash {x = free} {y = draining_table g h p} (sym a ∙ q) refl
    ]

no_page : {m : Machine} → SetUp m → (g v : ℕ) → translate m.state g v ≡ none
no_page {m} x g v = nobody_translates m.state g v (ap (λ (s : State). s.exists g) (nothing_yet x) ∙ (unfold started in refl))

not_dirty : {m : Machine} → SetUp m → (g : ℕ) → m.state.dirty g ≡ false
not_dirty {m} x g = ap (λ (s : State). s.dirty g) (nothing_yet x) ∙ (unfold started in refl)

sane_start : {m : Machine} → SetUp m → Sane m
sane_start {m} x = record {
  start = m;
  set_up = x;
  run = stop;
  closed = set_up_closed x;
  recalls = record { drained_entry = λ t g v f r a b. absurd (no_draining x t g 0 (v / 512) a) };
}

start_covers : (g : ℕ) {y z : Machine} → SetUp y → SetUp z → Covers g no_frames y z
start_covers g {y} {z} x w = record {
  roles = λ f f' a. absurd a;
  seen = λ f f' a. absurd a;
  there = λ f n. absurd (n (no_role x g f));
  single = λ f f' f'' a b. absurd a;
  dirty = not_dirty x g ∙ sym (not_dirty w g);
  now = λ v f r l e. absurd (never f r (sym (no_page x g v) ∙ e));
  kept = λ v f r a. absurd (none_kept x.fresh v (y.state.first + f) r a);
  bytes = λ f f' a. absurd a;
}
  where
    never : (f r : ℕ) → ◌≡◌ {A = Option Page} none (some (f, r)) → ⊥
    never f r e = let z : ◌≡◌ {A = ℕ} 0 1 = cc in omega arith

    none_kept : y.caches ≡ nothing_kept → (v a r : ℕ) → y.caches.page_kept g v a r → ⊥
    none_kept e v a r k = rw e at k

pub start_seen : (g : ℕ) {y z : Machine} → SetUp y → SetUp z → Seen g no_frames y z
start_seen g x w = record {
  first = sane_start x;
  second = sane_start w;
  covers = start_covers g x w;
  back = covers_iff g no_frames (flip no_frames) _ _ (λ f f' a. a) (λ f f' a. a) (start_covers g w x);
}

-- what the theorems say
pub covers_reads : (g : ℕ) (R : Frames) {y z : Machine} → Sane y → Covers g R y z → (v r : ℕ) (bytes : ℕ → ℕ) → Reads y g v r bytes →
    Reads z g v r bytes
covers_reads g R {y} {z} x c v r bytes a =
    let w = c.kept v a.0 r (x.closed.page_count g v (y.state.first + a.0) r a.1) in
    (w.0, kept w.2, λ i l. sym (c.bytes a.0 w.0 w.1 i l) ∙ a.2 i l)

pub covers_reads_now : (g : ℕ) (R : Frames) {y z : Machine} → Covers g R y z → (v r : ℕ) (bytes : ℕ → ℕ) → ReadsNow y g v r bytes →
    ReadsNow z g v r bytes
covers_reads_now g R {y} {z} c v r bytes a =
    let w = c.now v a.0 r a.1 a.2 in
    (w.0, a.1, w.2, λ i l. sym (c.bytes a.0 w.0 w.1 i l) ∙ a.3 i l)

pub covers_frames : (g : ℕ) (R : Frames) {y z : Machine} → Covers g R y z → (f : ℕ) → shown y.state g f ≡ true →
    (f' : ℕ) × R f f' × (shown z.state g f' ≡ true) × SameBytes y.state z.state f f'
covers_frames g R {y} {z} c f e =
    let n = shown_role y.state g f e in
    let w = c.there f n in
    (w.0, w.1, is_shown z.state g w.0 (λ q. n (c.roles f w.0 w.1 ∙ q)), c.bytes f w.0 w.1)
