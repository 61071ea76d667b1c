-- A step of one machine as guest g sees it. What it reads stays the same (SameView), unless the operation concerns g.
use mathlib.Core.Path.{◌≡◌, refl, sym, ap, ◌∙◌}
use mathlib.Core.Bool.{Bool, true, false, not, ◌&&◌, ◌||◌, cond, true≢false}
use mathlib.Core.Logic.{◌⊎◌, inl, inr, ◌↔◌}
use mathlib.Core.Option.{some}
use Prim.Native.Nat.{ℕ, ◌+◌, ◌<◌, ◌/◌, ◌%◌}
use native.Mathlib.Omega.{arith}
use lib.Dec.{eqb, leb}
use borrow.Author.Tests.{eqb-true, eqb-false, ne_eqb}
use Rattle.model.proofs.Laws.Base.{upd2_other}
use Rattle.model.specs.State.{State, KindOfFrame, monitor, free, table, draining_table, page, draining_page, put_byte, byte_of, byte, page_count, reworded, tabled}
use Rattle.model.specs.Entry.{entry}
use Rattle.model.specs.Translate.{entry_at, translate}
use Rattle.model.specs.Operations.{Out, refuse, done}
use Rattle.model.specs.Cache.{Translation, kept, grown}
use Rattle.model.specs.Machine.{Machine, Operation, Create, Give, Take, Map, Unmap, Share, Unshare, Destroy, Invalidated, answer, Chooses, keeps, settle, call, stored, write, Step, calls, Run, stop, then}
use Rattle.model.specs.Terms.{expected}
use Rattle.model_noninterference.specs.TwoRunsTerms.{reads, shown, SameBytes, answered, Stores}
use Rattle.model_noninterference.specs.ApartTerms.{concerns}
use Rattle.model.specs.State.{kind_number, FREE, TABLE}
use Rattle.model.specs.Invariant.{Core}
use Rattle.model.proofs.Invariant.Answer.{then_is, Sound}
use Rattle.model.proofs.Invariant.Holds.{Holds}
use Rattle.model.proofs.Invariant.Effects.{rows, same_translate}
use Rattle.model.proofs.Invariant.Bytes.{bytes_stay}
use Rattle.model.proofs.Invariant.Reaching.{reported, kept_before, kept_after}
use Rattle.model.proofs.Invariant.Linked.{Linked, answer_linked}
use Rattle.model_noninterference.proofs.Invariant.Alike.{step_closed, page_echo, stores_page, stores_step, written}
use Rattle.model_noninterference.proofs.Invariant.Apart.{role, role_of, role_after, dirty_after, Turns, answer_turns}
use Rattle.model_noninterference.proofs.Invariant.ApartKept.{Recalls, Sane, sane_holds, sane_linked, now_kept, same_first, sound, stale_kept, found_is}

pub run_on : {m z z' : Machine} → Run m z → Step z z' → Run m z'
run_on stop x = then x stop
run_on (then a r) x = then a (run_on r x)

-- a store leaves what drains
stored_word : {m : Machine} → Holds m → {h f o x : ℕ} → Stores m h f o x → (t : ℕ) → tabled (m.state.kind t) ≡ true → (i : ℕ) →
    (stored m.state f o x).word t i ≡ m.state.word t i
unfolding stored
stored_word {m} k {h} {f} {o} {x} r t e i = upd2_other m.state.word f (o / 8) (put_byte (o % 8) (m.state.word f (o / 8)) x) t i
    (λ (p : t ≡ f) q. true≢false (sym e ∙ ap (λ (u : ℕ). tabled (m.state.kind u)) p ∙ stores_page k r))

called_recalls : {m : Machine} → Sane m → (o : Operation) → Chooses m.state o → Recalls (call m o).state (call m o).caches
unfolding call
called_recalls {m} x o ch = go (answer m.state o) refl
  where
    go : (y : Out) → answer m.state o ≡ y → Recalls (settle m (keeps m.caches o) y).state (settle m (keeps m.caches o) y).caches
    go (refuse n) e = unfold settle grown in record { drained_entry = λ t g v f r a b. kept (x.recalls.drained_entry t g v f r a b) }
    go (done s') e = unfold settle grown in record { drained_entry = λ t g v f r a b. kept (stale_kept x o ch s' e t g v f r a b) }

written_recalls : {m : Machine} → Sane m → {h f o x : ℕ} → Stores m h f o x → Recalls (write m f o x).state (write m f o x).caches
unfolding write grown stored
written_recalls {m} y {h} {f} {o} {x} r = record {
  drained_entry = λ t g v f' r' (a : m.state.kind t ≡ draining_table g 0 (v / 512)) b. kept (y.recalls.drained_entry t g v f' r' a
      (ap (entry m.state.first) (sym (stored_word (sane_holds y) r t (ap tabled a) (v % 512))) ∙ b));
}

pub sane_called : {m : Machine} → Sane m → (o : Operation) → Chooses m.state o → Sane (call m o)
sane_called x o ch = record {
  start = x.start;
  set_up = x.set_up;
  run = run_on x.run (calls o ch);
  closed = step_closed (calls o ch);
  recalls = called_recalls x o ch;
}

pub sane_written : {m : Machine} → Sane m → {h f o x : ℕ} → Stores m h f o x → Sane (write m f o x)
sane_written y r = record {
  start = y.start;
  set_up = y.set_up;
  run = run_on y.run (stores_step r);
  closed = step_closed (stores_step r);
  recalls = written_recalls y r;
}

-- what g sees of the tables, of what is kept and of its frames is as before
pub record SameView (g : ℕ) (m m' : Machine) : Type 0 where
  pub roles : (f : ℕ) → role_of m'.state g f ≡ role_of m.state g f
  pub dirty : m'.state.dirty g ≡ m.state.dirty g
  pub now : (v : ℕ) → v < page_count → translate m'.state g v ≡ translate m.state g v
  pub kept : (v f r : ℕ) → m'.caches.page_kept g v (m'.state.first + f) r ↔ m.caches.page_kept g v (m.state.first + f) r

-- and so are the bytes of its frames
abbrev pub BytesStay : (g : ℕ) → Machine → Machine → Type 0
BytesStay g m m' = (f : ℕ) → (role_of m.state g f ≡ 0 → ⊥) → SameBytes m'.state m.state f f

pub same_view : (g : ℕ) (m : Machine) → SameView g m m
same_view g m = record { roles = λ f. refl; dirty = refl; now = λ v l. refl; kept = λ v f r. (λ a. a, λ a. a) }

-- a store
pub written_view : (g : ℕ) {m : Machine} → Sane m → {h f o x : ℕ} → Stores m h f o x → SameView g m (write m f o x)
unfolding write grown stored
written_view g {m} y {h} {f} {o} {x} r = record {
  roles = λ u. refl;
  dirty = refl;
  now = λ v l. same_translate m.state c (stored m.state f o x) g refl refl entries v l;
  kept = λ v f' r'. (λ a. y.closed.page_count g v (m.state.first + f') r' (back v (m.state.first + f') r' a), λ a. kept a);
}
  where
    c : Core m.state
    c = (sane_holds y).core

    entries : (t n h' p : ℕ) → m.state.kind t ≡ table n h' p → (i : ℕ) → entry_at (stored m.state f o x) t i ≡ entry_at m.state t i
    entries t n h' p a i = ap (λ (z : ℕ). entry z ((stored m.state f o x).word t i)) first=
        ∙ ap (entry m.state.first) (stored_word (sane_holds y) r t (ap tabled a) i)
      where
        first= : (stored m.state f o x).first ≡ m.state.first
        first= = unfold stored in refl

    is_reworded : stored m.state f o x ≡ reworded m.state (stored m.state f o x).word
    is_reworded = unfold stored in refl

    back : (v x' r' : ℕ) → Translation (stored m.state f o x) m.caches g v x' r' → Translation m.state m.caches g v x' r'
    back v x' r' a =
        let w = written (sane_holds y) r in
        page_echo (reworded m.state (stored m.state f o x).word) m.caches (rw is_reworded at w.0) (rw is_reworded at w.1)
        m.state.word m.caches
        (λ t e i. sym (stored_word (sane_holds y) r t e i)) (λ g h p x a. a) (λ g v x r a. a) g (rw is_reworded at a)

-- An answered operation, as g sees it.
pub record Called (g : ℕ) (m : Machine) (o : Operation) (m' : Machine) : Type 0 where
  pub turns : Turns g m.state o m'.state
  pub now : (v : ℕ) → v < page_count → translate m'.state g v ≡ expected m.state o g v
  pub was_kept : (v f r : ℕ) → m'.caches.page_kept g v (m'.state.first + f) r →
      ((reported g o ≡ false) × m.caches.page_kept g v (m.state.first + f) r) ⊎
      ((v < page_count) × (translate m'.state g v ≡ some (f, r)))
  pub still_kept : (v f r : ℕ) → reported g o ≡ false → m.caches.page_kept g v (m.state.first + f) r →
      m'.caches.page_kept g v (m'.state.first + f) r
  pub bytes : BytesStay g m m'

role_sort : (g : ℕ) (x : KindOfFrame) (how : ℕ) → (role g x how ≡ 0 → ⊥) →
    (eqb FREE (kind_number x) ≡ false) × (eqb TABLE (kind_number x) ≡ false)
role_sort g monitor how n = absurd (n refl)
role_sort g free how n = absurd (n refl)
role_sort g (table h l p) how n = absurd (n refl)
role_sort g (draining_table h l p) how n = absurd (n refl)
role_sort g (page h) how n = (refl, refl)
role_sort g (draining_page h) how n = (refl, refl)

pub called : (g : ℕ) {m : Machine} (x : Sane m) (o : Operation) (ch : Chooses m.state o) (s' : State)
    (e : answer m.state o ≡ done s') → Called g m o (record { state = s'; caches = grown s' (keeps m.caches o) })
unfolding grown
called g {m} x o ch s' e = record {
  turns = then_is (answer m.state o) s' (answer_turns g m.state c o ch) e;
  now = λ v l. then_is (answer m.state o) s' (rows m.state c o ch) e g v l;
  was_kept = λ v f r a. elim (found_is s' (keeps m.caches o) z.core z.kept linked g (λ t v f r. stale_kept x o ch s' e t g v f r)
      a f refl) [
        | inl b ↦ let y = kept_before m.caches o g v (s'.first + f) r b in inl (y.0, rw first= at y.1)
        | inr b ↦ inr b
      ];
  still_kept = λ v f r n a. rw first= (kept (kept_after m.caches o g v (m.state.first + f) r n a));
  bytes = λ f n. let q = role_sort g (m.state.kind f) (m.state.shared f g) n in λ i l. bytes_stay m.state c o ch s' e f
      (m.state.kind f) refl q.0 q.1 i;
}
  where
    c : Core m.state
    c = (sane_holds x).core

    z : Sound (keeps m.caches o) s'
    z = sound x o ch s' e

    first= : s'.first ≡ m.state.first
    first= = same_first x o ch s' e

    linked : Linked s'
    linked = then_is (answer m.state o) s' (answer_linked m.state c (sane_linked x) o ch) e

-- an operation that does not concern g
apart_role : (g : ℕ) (d : Bool) (o : Operation) → concerns g o ≡ false → (f k : ℕ) → role_after g d o f k ≡ k
apart_role g d (Create h pick) e f k = refl
apart_role g d (Give f' h) e f k = rw e (no_and (eqb f f'))
  where
    no_and : (b : Bool) → cond (b && false) 1 k ≡ k
    no_and true = refl
    no_and false = refl
apart_role g d (Take f' h) e f k = rw e (no_and (eqb f f'))
  where
    no_and : (b : Bool) → cond (b && false) (cond d 3 0) k ≡ k
    no_and true = refl
    no_and false = refl
apart_role g d (Map f' h a r pick) e f k = refl
apart_role g d (Unmap a h) e f k = refl
apart_role g d (Share o f' h w) e f k = rw e (no_and (eqb f f'))
  where
    no_and : (b : Bool) → cond (b && false) 2 k ≡ k
    no_and true = refl
    no_and false = refl
apart_role g d (Unshare o f' h) e f k = rw e (no_and (eqb f f'))
  where
    no_and : (b : Bool) → cond (b && false) (cond (eqb k 2) 0 k) k ≡ k
    no_and true = refl
    no_and false = refl
apart_role g d (Destroy h) e f k = rw e
apart_role g d (Invalidated h) e f k = rw e

apart_dirty : (g : ℕ) (d : Bool) (o : Operation) → concerns g o ≡ false → dirty_after g o d ≡ d
apart_dirty g d (Create h pick) e = refl
apart_dirty g d (Give f h) e = refl
apart_dirty g d (Take f h) e = refl
apart_dirty g d (Map f h a r pick) e = refl
apart_dirty g d (Unmap a h) e = rw e
apart_dirty g d (Share o f h w) e = refl
apart_dirty g d (Unshare o f h) e = refl
apart_dirty g d (Destroy h) e = rw e
apart_dirty g d (Invalidated h) e = rw e

turned_eqb : (h g : ℕ) → eqb h g ≡ false → eqb g h ≡ false
turned_eqb h g e = ne_eqb g h (λ (p : g ≡ h). eqb-false h g e (sym p))

apart_expected : (g : ℕ) (s : State) (o : Operation) → concerns g o ≡ false → (v : ℕ) → expected s o g v ≡ translate s g v
unfolding expected
apart_expected g s (Create h pick) e v = refl
apart_expected g s (Give f h) e v = refl
apart_expected g s (Take f h) e v = refl
apart_expected g s (Map f h a r pick) e v = rw (turned_eqb h g e)
apart_expected g s (Unmap a h) e v = rw (turned_eqb h g e)
apart_expected g s (Share o f h w) e v = refl
apart_expected g s (Unshare o f h) e v = refl
apart_expected g s (Destroy h) e v = rw (turned_eqb h g e)
apart_expected g s (Invalidated h) e v = refl

apart_reported : (g : ℕ) (o : Operation) → concerns g o ≡ false → reported g o ≡ false
apart_reported g (Create h pick) e = refl
apart_reported g (Give f h) e = refl
apart_reported g (Take f h) e = refl
apart_reported g (Map f h a r pick) e = refl
apart_reported g (Unmap a h) e = refl
apart_reported g (Share o f h w) e = refl
apart_reported g (Unshare o f h) e = refl
apart_reported g (Destroy h) e = refl
apart_reported g (Invalidated h) e = e

-- with what it sees
pub record Unseen (g : ℕ) (m m' : Machine) : Type 0 where
  pub view : SameView g m m'
  pub bytes : BytesStay g m m'

apart_unseen : (g : ℕ) {m : Machine} → Sane m → (o : Operation) (m' : Machine) → concerns g o ≡ false → Called g m o m' → Unseen g m m'
apart_unseen g {m} x o m' e z = record {
  view = record {
    roles = λ f. z.turns.roles f ∙ apart_role g (m.state.dirty g) o e f (role_of m.state g f);
    dirty = z.turns.dirty ∙ apart_dirty g (m.state.dirty g) o e;
    now = λ v l. z.now v l ∙ apart_expected g m.state o e v;
    kept = λ v f r. (
      λ a. elim (z.was_kept v f r a) [
        | inl b ↦ b.1
        | inr b ↦ now_kept x g v f r b.0
            (sym (z.now v b.0 ∙ apart_expected g m.state o e v) ∙ b.1)
      ],
      λ a. z.still_kept v f r (apart_reported g o e) a,
    );
  };
  bytes = z.bytes;
}

refused_unseen : (g : ℕ) {m : Machine} → Sane m → Unseen g m (record { state = m.state; caches = grown m.state m.caches })
unfolding grown
refused_unseen g {m} x = record {
  view = record {
    roles = λ f. refl;
    dirty = refl;
    now = λ v l. refl;
    kept = λ v f r. (λ a. x.closed.page_count g v (m.state.first + f) r a, λ a. kept a);
  };
  bytes = λ f n i l. refl;
}

pub called_unseen : (g : ℕ) {m : Machine} → Sane m → (o : Operation) → Chooses m.state o →
    (concerns g o ≡ false) ⊎ (answered (answer m.state o) ≡ false) → Unseen g m (call m o)
unfolding call
called_unseen g {m} x o ch w = go (answer m.state o) refl w
  where
    go : (y : Out) → answer m.state o ≡ y → (concerns g o ≡ false) ⊎ (answered y ≡ false) →
        Unseen g m (settle m (keeps m.caches o) y)
    go (refuse n) e w = unfold settle in refused_unseen g x
    go (done s') e (inl a) = unfold settle in apart_unseen g x o (record { state = s'; caches = grown s' (keeps m.caches o) }) a
        (called g x o ch s' e)
    go (done s') e (inr a) = let z : ◌≡◌ {A = ℕ} 0 1 = cc in absurd (omega arith)

-- a store to a frame that is not shown to g
reads_role : (g : ℕ) (x : KindOfFrame) (how : ℕ) → reads g x how ≡ not (eqb (role g x how) 0)
reads_role g monitor how = refl
reads_role g free how = refl
reads_role g (table h n p) how = refl
reads_role g (draining_table h n p) how = refl
reads_role g (page h) how = go (eqb h g) (leb 1 how)
  where
    go : (a b : Bool) → (a || b) ≡ not (eqb (cond a 1 (cond b 2 0)) 0)
    go true b = refl
    go false true = refl
    go false false = refl
reads_role g (draining_page h) how = go (eqb h g)
  where
    go : (a : Bool) → a ≡ not (eqb (cond a 3 0) 0)
    go true = refl
    go false = refl

pub not_shown : (s : State) (g f : ℕ) → shown s g f ≡ false → role_of s g f ≡ 0
not_shown s g f e = eqb-true (role_of s g f) 0 (go (eqb (role_of s g f) 0) (sym (reads_role g (s.kind f) (s.shared f g)) ∙ e))
  where
    go : (b : Bool) → not b ≡ false → b ≡ true
    go true e = refl
    go false e = sym e

pub is_shown : (s : State) (g f : ℕ) → (role_of s g f ≡ 0 → ⊥) → shown s g f ≡ true
is_shown s g f n = rw (reads_role g (s.kind f) (s.shared f g), ne_eqb (role_of s g f) 0 n)

pub shown_role : (s : State) (g f : ℕ) → shown s g f ≡ true → role_of s g f ≡ 0 → ⊥
shown_role s g f e n = true≢false (sym e ∙ reads_role g (s.kind f) (s.shared f g) ∙ ap (λ (k : ℕ). not (eqb k 0)) n)

pub stored_apart : (s : State) (f o x u : ℕ) → (u ≡ f → ⊥) → SameBytes (stored s f o x) s u u
unfolding stored byte
stored_apart s f o x u n i l = ap (byte_of (i % 8)) (upd2_other s.word f (o / 8) (put_byte (o % 8) (s.word f (o / 8)) x) u (i / 8)
    (λ p q. n p))

pub written_unseen : (g : ℕ) {m : Machine} → Sane m → {h f o x : ℕ} → Stores m h f o x → shown m.state g f ≡ false →
    Unseen g m (write m f o x)
written_unseen g {m} y {h} {f} {o} {x} r e = record {
  view = written_view g y r;
  bytes = λ u n. unfold write in stored_apart m.state f o x u
      (λ (p : u ≡ f). n (ap (role_of m.state g) p ∙ not_shown m.state g f e));
}
