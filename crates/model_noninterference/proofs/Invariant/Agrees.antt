-- The same ledger over other words: where the words of the tables are the same, every operation answers the same.
-- What of the words is the same (Agrees): those of every table, and the bytes of what guest g may read.
use mathlib.Core.Path.{◌≡◌, sym, ap, ◌∙◌}
use mathlib.Core.Bool.{true, false, true≢false}
use mathlib.Core.Logic.{◌⊎◌, inl, inr}
use Prim.Native.Nat.{ℕ, ◌<◌, ◌/◌, ◌%◌}
use Rattle.model.proofs.Laws.Base.{eq?}
use Rattle.model.specs.Base.{upd, upd2}
use Rattle.model.proofs.Laws.Base.{upd_at, upd_other, upd2_at, upd2_other}
use Rattle.model.specs.State.{KindOfFrame, byte_of, put_byte, tabled}
use Rattle.model.specs.Changes.{zeros}
use Rattle.model_noninterference.specs.TwoRunsTerms.{reads}
use Rattle.model.proofs.Invariant.Bytes.{byte_put_same, byte_put_other}

-- the bytes of a frame, in its words
abbrev pub SameFrame : (a b : ℕ → ℕ) → Type 0
SameFrame a b = (j k : ℕ) → j < 512 → k < 8 → byte_of k (a j) ≡ byte_of k (b j)

pub record Agrees (g : ℕ) (kind : ℕ → KindOfFrame) (shared a b : ℕ → ℕ → ℕ) : Type 0 where
  pub tables : (t : ℕ) → tabled (kind t) ≡ true → (i : ℕ) → b t i ≡ a t i
  pub page_count : (f : ℕ) → reads g (kind f) (shared f g) ≡ true → SameFrame (a f) (b f)

-- one change in both: what can be seen of a word at a place stays the same
upd2_both : {A : Type 0} (B : ℕ → A) (a b : ℕ → ℕ → ℕ) (t i x u j : ℕ) → B (a u j) ≡ B (b u j) →
    B (upd2 a t i x u j) ≡ B (upd2 b t i x u j)
upd2_both B a b t i x u j e = elim (eq? u t) [
  | inl p ↦ elim (eq? j i) [
    | inl q ↦ rw (upd2_at a t i x u j p q, upd2_at b t i x u j p q)
    | inr q ↦ rw (upd2_other a t i x u j (λ y z. q z), upd2_other b t i x u j (λ y z. q z)) e
  ]
  | inr p ↦ rw (upd2_other a t i x u j (λ y z. p y), upd2_other b t i x u j (λ y z. p y)) e
]

zeros_both : {A : Type 0} (B : ℕ → A) (a b : ℕ → ℕ → ℕ) (t u j : ℕ) → ((u ≡ t → ⊥) → B (a u j) ≡ B (b u j)) →
    B (upd a t zeros u j) ≡ B (upd b t zeros u j)
zeros_both B a b t u j e = elim (eq? u t) [
  | inl p ↦ rw (upd_at a t zeros u p, upd_at b t zeros u p)
  | inr p ↦ rw (upd_other a t zeros u p, upd_other b t zeros u p) (e p)
]

module _ (g : ℕ) (kind : ℕ → KindOfFrame) (shared a b : ℕ → ℕ → ℕ) (m : Agrees g kind shared a b) where
  -- the same word is written in both
  pub agrees_set : (t i x : ℕ) → Agrees g kind shared (upd2 a t i x) (upd2 b t i x)
  agrees_set t i x = record {
    tables = λ u e j. upd2_both (λ y. y) b a t i x u j (m.tables u e j);
    page_count = λ f e j k l n. upd2_both (byte_of k) a b t i x f j (m.page_count f e j k l n);
  }

  -- frame t is cleared in both, and becomes anything
  pub agrees_zero : (t : ℕ) (kind' : ℕ → KindOfFrame) (shared' : ℕ → ℕ → ℕ) → ((u : ℕ) → (u ≡ t → ⊥) → kind' u ≡ kind u) →
      ((u : ℕ) → (u ≡ t → ⊥) → shared' u g ≡ shared u g) →
      Agrees g kind' shared' (upd a t zeros) (upd b t zeros)
  agrees_zero t kind' shared' ke se = record {
    tables = λ u e j. zeros_both (λ y. y) b a t u j (λ ne. m.tables u (rw (ke u ne) at e) j);
    page_count = λ f e j k l n. zeros_both (byte_of k) a b t f j (λ ne. m.page_count f (rw (ke f ne, se f ne) at e) j k l n);
  }

  -- no more tables, and nothing more is shown but what is the same in both
  pub agrees_less : (kind' : ℕ → KindOfFrame) (shared' : ℕ → ℕ → ℕ) → ((t : ℕ) → tabled (kind' t) ≡ true → tabled (kind t) ≡ true) →
      ((f : ℕ) → reads g (kind' f) (shared' f g) ≡ true → (reads g (kind f) (shared f g) ≡ true) ⊎ SameFrame (a f) (b f)) →
      Agrees g kind' shared' a b
  agrees_less kind' shared' ts ps = record {
    tables = λ t e. m.tables t (ts t e);
    page_count = λ f e. elim (ps f e) [ inl x ↦ m.page_count f x | inr x ↦ x ];
  }

  -- a byte is stored in both
  pub agrees_stored : (f o x : ℕ) → x < 256 → tabled (kind f) ≡ false →
      Agrees g kind shared (upd2 a f (o / 8) (put_byte (o % 8) (a f (o / 8)) x)) (upd2 b f (o / 8) (put_byte (o % 8) (b f (o / 8)) x))
  agrees_stored f o x lx no_table = record {
    tables = λ t e i.
        let ne : t ≡ f → ⊥ = λ (p : t ≡ f). true≢false (sym e ∙ ap (λ (y : ℕ). tabled (kind y)) p ∙ no_table) in
        rw (
          upd2_other b f (o / 8) (put_byte (o % 8) (b f (o / 8)) x) t i (λ p q. ne p),
          upd2_other a f (o / 8) (put_byte (o % 8) (a f (o / 8)) x) t i (λ p q. ne p),
        ) (m.tables t e i);
    page_count = λ u e j k l n. elim (eq? u f) [
      | inr p ↦ rw (
        upd2_other a f (o / 8) (put_byte (o % 8) (a f (o / 8)) x) u j (λ y z. p y),
        upd2_other b f (o / 8) (put_byte (o % 8) (b f (o / 8)) x) u j (λ y z. p y),
      ) (m.page_count u e j k l n)
      | inl p ↦ elim (eq? j (o / 8)) [
        | inr q ↦ rw (
          upd2_other a f (o / 8) (put_byte (o % 8) (a f (o / 8)) x) u j (λ y z. q z),
          upd2_other b f (o / 8) (put_byte (o % 8) (b f (o / 8)) x) u j (λ y z. q z),
        ) (m.page_count u e j k l n)
        | inl q ↦ rw (
          upd2_at a f (o / 8) (put_byte (o % 8) (a f (o / 8)) x) u j p q,
          upd2_at b f (o / 8) (put_byte (o % 8) (b f (o / 8)) x) u j p q,
        ) (elim (eq? k (o % 8)) [
          | inl d ↦ rw (d, byte_put_same (o % 8) (a f (o / 8)) x lx, byte_put_same (o % 8) (b f (o / 8)) x lx)
          | inr d ↦ rw (byte_put_other k (o % 8) (a f (o / 8)) x lx d, byte_put_other k (o % 8) (b f (o / 8)) x lx d)
              (m.page_count f (rw p at e) (o / 8) k (rw q at l) n)
        ])
      ]
    ];
  }

  -- words of one frame change on one side, which holds no table and is not shown
  pub agrees_apart : (a' : ℕ → ℕ → ℕ) (f : ℕ) → ((u i : ℕ) → (u ≡ f → ⊥) → a' u i ≡ a u i) → tabled (kind f) ≡ false →
      reads g (kind f) (shared f g) ≡ false → Agrees g kind shared a' b
  agrees_apart a' f same no_table hid = record {
    tables = λ t e i. m.tables t e i ∙ sym (same t i (λ (p : t ≡ f). true≢false (sym e ∙ ap (λ (y : ℕ). tabled (kind y)) p ∙ no_table)));
    page_count = λ u e j k l n. ap (byte_of k) (same u j (λ (p : u ≡ f). true≢false
        (sym e ∙ ap (λ (y : ℕ). reads g (kind y) (shared y g)) p ∙ hid))) ∙ m.page_count u e j k l n;
  }

-- from the other side
pub agrees_turned : (g : ℕ) (kind : ℕ → KindOfFrame) (shared a b : ℕ → ℕ → ℕ) → Agrees g kind shared a b → Agrees g kind shared b a
agrees_turned g kind shared a b m = record {
  tables = λ t e i. sym (m.tables t e i);
  page_count = λ f e j k l n. sym (m.page_count f e j k l n);
}
