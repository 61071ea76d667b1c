-- create keeps the invariant.
use mathlib.Core.Path.{◌≡◌, refl, sym, ap, ◌∙◌}
use mathlib.Core.Bool.{true, false, not}
use mathlib.Core.Logic.{inl, inr}
use Prim.Native.Nat.{ℕ, ◌+◌, ◌*◌, ◌/◌, ◌%◌}
use lib.Dec.{eqb}
use borrow.Author.Tests.{leb-true}
use Rattle.model.proofs.Laws.Base.{eq?, and_true, not_true}
use Rattle.model.specs.Base.{upd}
use Rattle.model.proofs.Laws.Base.{upd_same, upd_at, upd_other}
use Rattle.model.specs.State.{State, KindOfFrame, monitor, free, table, draining_table, page, draining_page, is_guest, free_frames}
use Rattle.model.specs.Entry.{entry}
use Rattle.model.proofs.Laws.Entry.{entry_empty}
use Rattle.model.specs.Translate.{entry_at}
use Rattle.model.specs.Changes.{Choice, zeros, with_root}
use Rattle.model.specs.Operations.{create}
use Rattle.model.specs.Cache.{Caches}
use Rattle.model.specs.State.{kind_number, FREE, TABLE}
use Rattle.model.proofs.Invariant.Kinds.{clash, kind_keep, kind_from}
use Rattle.model.specs.Invariant.{May, Core, Kept}
use Rattle.model.proofs.Invariant.Core.{fits_keep, stale_keep}
use Rattle.model.proofs.Invariant.Counts.{places_cong, hit_plain, hit_high}
use Rattle.model.proofs.Invariant.Choice.{first_free}
use Rattle.model.proofs.Invariant.Answer.{Good, then_done, checked}

module _ (s : State) (c : Core s) (g t : ℕ) (none : s.exists g ≡ false) (hg : is_guest g ≡ true) (hf : s.kind t ≡ free) where
  keep : (u : ℕ) (x : KindOfFrame) → s.kind u ≡ x → eqb FREE (kind_number x) ≡ false → upd s.kind t (table g 3 0) u ≡ x
  keep u x a k = kind_keep s.kind t free (table g 3 0) hf u x a k

  from : (u : ℕ) (x : KindOfFrame) → upd s.kind t (table g 3 0) u ≡ x → eqb TABLE (kind_number x) ≡ false → s.kind u ≡ x
  from u x a k = kind_from s.kind t (table g 3 0) u x a k

  pub root_word : (u : ℕ) (x : KindOfFrame) → s.kind u ≡ x → eqb FREE (kind_number x) ≡ false → (j : ℕ) →
      upd s.word t zeros u j ≡ s.word u j
  root_word u x a k j = rw (upd_other s.word t zeros u (λ (e : u ≡ t). clash {x = free} {y = x} (sym hf ∙ ap s.kind (sym e) ∙ a) k))

  may : (g' f r : ℕ) → May s g' f r → May (with_root s g t) g' f r
  unfolding with_root
  may g' f r (inl a) = inl (keep f (page g') a refl)
  may g' f r (inr a) = inr (a.0, keep f (page a.0) a.1 refl, a.2)

  there : (h : ℕ) → s.exists h ≡ true → upd s.exists g true h ≡ true
  there h l = elim (eq? h g) [ inl e ↦ upd_at s.exists g true h e | inr e ↦ upd_other s.exists g true h e ∙ l ]

  pub root_core : Core (with_root s g t)
  unfolding with_root zeros
  root_core = record {
    room = c.room;
    beyond = λ u l. keep u monitor (c.beyond u l) refl;
    table_exists = λ u h n p a. elim (eq? u t) [
      | inl e ↦ let b = sym (upd_at s.kind t (table g 3 0) u e) ∙ a in upd_at s.exists g true h (cc)
      | inr e ↦ there h (c.table_exists u h n p (sym (upd_other s.kind t (table g 3 0) u e) ∙ a))
    ];
    tables = λ u h n p a j l. elim (eq? u t) [
      | inl e ↦ rw (upd_at s.word t zeros u e, entry_empty s.first) tt
      | inr e ↦
          let b = sym (upd_other s.kind t (table g 3 0) u e) ∙ a in
          rw (root_word u (table h n p) b refl j)
          (fits_keep s.kind (upd s.kind t (table g 3 0)) (May s) (May (with_root s g t)) h (λ t n p b. keep t (table h n p) b refl)
          n (p * 512 + j) (entry_at s u j)
          (λ f r z e m. may h f r m) (c.tables u h n p b j l))
    ];
    draining = λ u h n p a j l.
        let b = from u (draining_table h n p) a refl in
        rw (root_word u (draining_table h n p) b refl j)
        (stale_keep s.kind (upd s.kind t (table g 3 0)) h (λ u n p b. keep u (draining_table h n p) b refl)
        (λ f b. keep f (draining_page h) b refl) n (p * 512 + j) (entry_at s u j) (c.draining u h n p b j l));
    roots = λ h l. elim (eq? h g) [
      | inl e ↦ rw (upd_at s.root g t h e, e) (upd_same s.kind t (table g 3 0))
      | inr e ↦ rw (upd_other s.root g t h e) (keep (s.root h) (table h 3 0) (c.roots h (sym (upd_other s.exists g true h e) ∙ l))
          refl)
    ];
    page_exists = λ f h a. there h (c.page_exists f h (from f (page h) a refl));
    strangers = λ f o h a l. c.strangers f o h (from f (page o) a refl) (elim (eq? h g) [
      | inl e ↦ rw e none
      | inr e ↦ sym (upd_other s.exists g true h e) ∙ l
    ]);
    guests_only = λ h l. elim (eq? h g) [ inl e ↦ rw e hg | inr e ↦ c.guests_only h (sym (upd_other s.exists g true h e) ∙ l) ];
    counts = λ f h. c.counts f h ∙ places_cong s (with_root s g t) f h refl (λ u j l m.
        elim (eq? u t) [
          | inl e ↦ rw (upd_at s.kind t (table g 3 0) u e, hit_high g 2 0 (entry s.first (upd s.word t zeros u j)) f h)
              (rw (e, hf) (hit_plain free (entry_at s t j) f h refl))
          | inr e ↦ rw (upd_other s.kind t (table g 3 0) u e, upd_other s.word t zeros u e)
        ]);
  }

  pub root_kept : (k : Caches) → Kept s k → Kept (with_root s g t) k
  unfolding with_root
  root_kept k q = record {
    table_ok = λ h n p x a.
        let b = q.table_ok h n p x a in (
          b.0,
          b.1,
          elim b.2 [
            | inl d ↦ inl (keep b.0 (table h n p) d refl)
            | inr d ↦ inr (keep b.0 (draining_table h n p) d refl)
          ],
        );
    page_ok = λ h v x r a.
        let b = q.page_ok h v x r a in
        (b.0, b.1, elim b.2 [ inl d ↦ inl (may h b.0 r d) | inr d ↦ inr (keep b.0 (draining_page h) d refl) ]);
    table_now = λ h n p x d a. let b = q.table_now h n p x d a in (b.0, b.1, keep b.0 (table h n p) b.2 refl);
    page_now = λ h v x r d a.
        let b = q.page_now h v x r d a in
        let m = b.2 in (
          b.0,
          b.1,
          (
            m.0,
            keep m.0 (table h 0 (v / 512)) m.1 refl,
            ap (entry s.first) (root_word m.0 (table h 0 (v / 512)) m.1 refl (v % 512)) ∙ m.2,
          ),
        );
  }

pub create_good : (s : State) (c : Core s) (k : Caches) (q : Kept s k) (g : ℕ) (pick : ℕ → ℕ) → Choice s pick → Good k (create s g pick)
unfolding create
create_good s c k q g pick ch =
    checked 1 λ e1. checked 2 λ e2. checked 3 λ e3.
    let f = first_free s c pick ch (leb-true 1 (free_frames s) e3) in
    let l = not_true (s.exists g) (and_true (not (s.exists g)) (not (s.dirty g)) e2).0 in
    then_done (record { core = root_core s c g (pick 0) l e1 f; kept = root_kept s c g (pick 0) l e1 f k q })
