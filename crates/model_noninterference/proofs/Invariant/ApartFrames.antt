-- Two machines as guest g sees them, with frames that correspond (Covers, in each direction): every pair of steps keeps it.
use mathlib.Core.Path.{◌≡◌, refl, sym, ap, ◌∙◌}
use mathlib.Core.Logic.{inl, inr}
use mathlib.Core.Option.{some}
use Prim.Native.Nat.{ℕ, ◌+◌, ◌<◌, ◌/◌, ◌%◌}
use lib.Dec.{eqb}
use borrow.Author.Tests.{eq-eqb, ne_eqb}
use Rattle.model.proofs.Laws.Base.{eq?}
use Rattle.model.proofs.Laws.Base.{upd2_at, upd2_other}
use Rattle.model.specs.State.{State, put_byte, byte, page_count}
use Rattle.model.specs.Translate.{translate}
use Rattle.model.specs.Machine.{Machine, stored}
use Rattle.model_noninterference.specs.TwoRunsTerms.{SameBytes}
use Rattle.model_noninterference.specs.ApartTerms.{Frames}
use Rattle.model.proofs.Invariant.Bytes.{byte_put_same, byte_put_other}
use Rattle.model_noninterference.proofs.Invariant.Apart.{role_of}
use Rattle.model_noninterference.proofs.Invariant.ApartSteps.{SameView, Unseen, stored_apart}

abbrev pub flip : Frames → Frames
flip R f f' = R f' f

-- Whatever g has in y it has in z, in the frame that corresponds.
pub record Covers (g : ℕ) (R : Frames) (y z : Machine) : Type 0 where
  pub roles : (f f' : ℕ) → R f f' → role_of y.state g f ≡ role_of z.state g f'
  pub seen : (f f' : ℕ) → R f f' → role_of y.state g f ≡ 0 → ⊥
  pub there : (f : ℕ) → (role_of y.state g f ≡ 0 → ⊥) → (f' : ℕ) × R f f'
  pub single : (f f' f'' : ℕ) → R f f' → R f f'' → f' ≡ f''
  pub dirty : y.state.dirty g ≡ z.state.dirty g
  pub now : (v f r : ℕ) → v < page_count → translate y.state g v ≡ some (f, r) →
      (f' : ℕ) × R f f' × (translate z.state g v ≡ some (f', r))
  pub kept : (v f r : ℕ) → y.caches.page_kept g v (y.state.first + f) r →
      (f' : ℕ) × R f f' × z.caches.page_kept g v (z.state.first + f') r
  pub bytes : (f f' : ℕ) → R f f' → SameBytes y.state z.state f f'

pub covers_iff : (g : ℕ) (R R' : Frames) (y z : Machine) → ((f f' : ℕ) → R f f' → R' f f') → ((f f' : ℕ) → R' f f' → R f f') →
    Covers g R y z → Covers g R' y z
covers_iff g R R' y z to from c = record {
  roles = λ f f' x. c.roles f f' (from f f' x);
  seen = λ f f' x. c.seen f f' (from f f' x);
  there = λ f n. let b = c.there f n in (b.0, to f b.0 b.1);
  single = λ f f' f'' a b. c.single f f' f'' (from f f' a) (from f f'' b);
  dirty = c.dirty;
  now = λ v f r l e. let b = c.now v f r l e in (b.0, to f b.0 b.1, b.2);
  kept = λ v f r a. let b = c.kept v f r a in (b.0, to f b.0 b.1, b.2);
  bytes = λ f f' x. c.bytes f f' (from f f' x);
}

-- steps that leave what g sees, but for bytes
pub covers_view : (g : ℕ) (R : Frames) {y z y' z' : Machine} → SameView g y y' → SameView g z z' →
    ((f f' : ℕ) → R f f' → SameBytes y'.state z'.state f f') → Covers g R y z → Covers g R y' z'
covers_view g R {y} {z} {y'} {z'} a b bs c = record {
  roles = λ f f' x. a.roles f ∙ c.roles f f' x ∙ sym (b.roles f');
  seen = λ f f' x e. c.seen f f' x (sym (a.roles f) ∙ e);
  there = λ f n. c.there f (λ e. n (a.roles f ∙ e));
  single = c.single;
  dirty = a.dirty ∙ c.dirty ∙ sym b.dirty;
  now = λ v f r l e. let x = c.now v f r l (sym (a.now v l) ∙ e) in (x.0, x.1, b.now v l ∙ x.2);
  kept = λ v f r k. let x = c.kept v f r ((a.kept v f r).0 k) in (x.0, x.1, (b.kept v x.0 r).1 x.2);
  bytes = bs;
}

pub covers_unseen : (g : ℕ) (R : Frames) {y z y' z' : Machine} → Unseen g y y' → Unseen g z z' → Covers g R y z → Covers g R y' z'
covers_unseen g R {y} {z} {y'} {z'} a b c = covers_view g R a.view b.view
    (λ f f' x i l. a.bytes f (c.seen f f' x) i l ∙ c.bytes f f' x i l
    ∙ sym (b.bytes f' (λ e. c.seen f f' x (c.roles f f' x ∙ e)) i l)) c

-- the same store to frames that correspond
stored_here : (s s' : State) (f f' o x : ℕ) → x < 256 → SameBytes s s' f f' → SameBytes (stored s f o x) (stored s' f' o x) f f'
unfolding stored byte
stored_here s s' f f' o x lx e i l = elim (eq? (i / 8) (o / 8)) [
  | inr p ↦ rw (
    upd2_other s.word f (o / 8) (put_byte (o % 8) (s.word f (o / 8)) x) f (i / 8) (λ a b. p b),
    upd2_other s'.word f' (o / 8) (put_byte (o % 8) (s'.word f' (o / 8)) x) f' (i / 8) (λ a b. p b),
  ) (e i l)
  | inl p ↦ rw (
    upd2_at s.word f (o / 8) (put_byte (o % 8) (s.word f (o / 8)) x) f (i / 8) refl p,
    upd2_at s'.word f' (o / 8) (put_byte (o % 8) (s'.word f' (o / 8)) x) f' (i / 8) refl p,
  )
      (elim (eq? (i % 8) (o % 8)) [
        | inl q ↦ rw (q, byte_put_same (o % 8) (s.word f (o / 8)) x lx, byte_put_same (o % 8) (s'.word f' (o / 8)) x lx)
        | inr q ↦ rw (
          byte_put_other (i % 8) (o % 8) (s.word f (o / 8)) x lx q,
          byte_put_other (i % 8) (o % 8) (s'.word f' (o / 8)) x lx q,
        ) (rw p at (e i l))
      ])
]

module _ (g : ℕ) (R : Frames) (y z : Machine) (cy : Covers g R y z) (cz : Covers g (flip R) z y) where
  -- frames that correspond are named together
  pub same_eqb : (f f' a b : ℕ) → R f f' → R a b → eqb a f ≡ eqb b f'
  same_eqb f f' a b x w = elim (eq? a f) [
    | inl p ↦ rw (eq-eqb a f p, eq-eqb b f' (cy.single f b f' (rw p at w) x))
    | inr p ↦ rw (ne_eqb a f p, ne_eqb b f' (λ (e : b ≡ f'). p (cz.single f' a f (rw e at w) x)))
  ]

  -- and so are those that g does not see yet
  pub new_eqb : (f f' a b : ℕ) → role_of y.state g f ≡ 0 → role_of z.state g f' ≡ 0 → R a b → eqb a f ≡ eqb b f'
  new_eqb f f' a b n n' w = rw (
    ne_eqb a f (λ (p : a ≡ f). cy.seen a b w (ap (role_of y.state g) p ∙ n)),
    ne_eqb b f' (λ (p : b ≡ f'). cz.seen b a w (ap (role_of z.state g) p ∙ n')),
  )

  pub both_stored : (f f' o x : ℕ) → x < 256 → R f f' → (a b : ℕ) → R a b →
      SameBytes (stored y.state f o x) (stored z.state f' o x) a b
  both_stored f f' o x lx r a b w = elim (eq? a f) [
    | inl p ↦ let q = cy.single f b f' (rw p at w) r in rw (p, q) (stored_here y.state z.state f f' o x lx (cy.bytes f f' r))
    | inr p ↦ λ i l. stored_apart y.state f o x a p i l ∙ cy.bytes a b w i l
        ∙ sym (stored_apart z.state f' o x b (λ (e : b ≡ f'). p (cz.single f' a f (rw e at w) r)) i l)
  ]
