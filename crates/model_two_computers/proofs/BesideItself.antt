-- The hypotheses of TwoComputers can always be met: every run stands beside itself.
use mathlib.Core.Path.{◌≡◌, refl, sym, ap, ◌∙◌}
use mathlib.Core.Bool.{true, true≢false}
use mathlib.Core.Logic.{inl, inr}
use Prim.Native.Nat.{ℕ, suc, ◌/◌, ◌%◌}
use Rattle.model.proofs.Laws.Base.{eq?}
use Rattle.model.specs.Base.{upd}
use Rattle.model.specs.Translate.{upper}
use Rattle.model.specs.Cache.{inside, reading}
use Rattle.model_moves.specs.Spaces.{Spaces, table, with_kind, store, May, Says}
use Rattle.model_moves.specs.Moves.{untabled, Move, put, claim, link, Link, enter, Enter, clear, unhook, hand, lend, retire, release, open_space, end, dissolve}
use Rattle.model_moves.specs.Machine.{Machine, with_spaces, Step, moves, reports, looks, stores, Run, stop, then}
use Rattle.model_moves.specs.Terms.{Start, Allowed, HostMove, Touches}
use Rattle.model_two_computers.specs.Terms.{Frames, no_frames, Repaired, Aside, Unpaired, LeavesFirst, LeavesSecond, Two, ends, left, right, both, repairs, entered, cleared, linked, dissolved, reported, stored, put_both}
use Rattle.model_two_computers.proofs.Reading.{append}
use Rattle.model_moves.proofs.Invariant.Core.{Core}
use Rattle.model_moves.proofs.Invariant.Entries.{same_frame}
use Rattle.model_moves.proofs.Invariant.Holds.{Good, belongs_untabled, store_frame, step_good}
use Rattle.model_moves.proofs.Invariant.Allowed.{page_words, start_good}

-- each frame that holds no table corresponds to itself
abbrev pub Itself : Machine → Frames
Itself m f f' = (f ≡ f') × (untabled (m.spaces.kind f) ≡ true)

allowed_untabled : (s : Spaces) (c f : ℕ) → Allowed s c f reading → untabled (s.kind f) ≡ true
allowed_untabled s c f (inl e) = ap untabled e
allowed_untabled s c f (inr (inl e)) = ap untabled e.1
allowed_untabled s c f (inr (inr e)) = ap untabled e.0

may_untabled : (s : Spaces) (c f r : ℕ) → May s c f r → untabled (s.kind f) ≡ true
may_untabled s c f r (inl e) = ap untabled e
may_untabled s c f r (inr e) = ap untabled e.1

anew : (c : ℕ) (R : Frames) (m : Machine) → ((f f' : ℕ) → R f f' → f ≡ f') → Repaired c R (Itself m) m m
anew c R m e = record {
  one_right = λ f a b x y. sym x.0 ∙ y.0;
  one_left = λ a b f x y. x.0 ∙ sym y.0;
  new = λ f f' x. inr (λ i. ap (λ (n : ℕ). m.spaces.word n i) x.0);
  stays = λ f f' x l l'. (e f f' x, allowed_untabled m.spaces c f l);
}

module _ (c : ℕ) (y : Machine) where
  abbrev R : Frames
  R = Itself y

  then_anew : (y₁ : Machine) → Two c R y y R y₁ y₁ → Two c R y y (Itself y₁) y₁ y₁
  then_anew y₁ t = append t (repairs (anew c R y₁ (λ f f' x. x.0)) ends)

  -- a step that is aside, first here and then there
  twice : {y₁ : Machine} (t : Step y y₁) → Aside t c →
      ((f i : ℕ) → untabled (y.spaces.kind f) ≡ true → y₁.spaces.word f i ≡ y.spaces.word f i) → Two c R y y R y₁ y₁
  twice {y₁} t n w =
      let first : LeavesFirst R y y₁ = λ f f' i x. w f i x.1 in
      let second : LeavesSecond R y y₁ = λ f f' i x. ap (λ (k : ℕ). y₁.spaces.word k i) (sym x.0) ∙ w f i x.1
      ∙ ap (λ (k : ℕ). y.spaces.word k i) x.0 in
      left t n first (right t n second ends)

  quietly : (s : Spaces) (a : Move y.spaces s) → (Touches a c → ⊥) → ((f : ℕ) → HostMove a f → ⊥) →
      Two c R y y R (with_spaces y s) (with_spaces y s)
  quietly s a n h = twice (moves s a) n (λ f i u. elim (page_words a f i u) [ inl e ↦ e | inr e ↦ absurd (h f e) ])

  not_table : (t h p : ℕ) → y.spaces.kind t ≡ table c h p → Unpaired R t t
  not_table t h p e = (
    λ f x. true≢false (sym x.1 ∙ ap untabled e),
    λ f x. true≢false (sym x.1 ∙ ap (λ (n : ℕ). untabled (y.spaces.kind n)) x.0 ∙ ap untabled e),
  )

  enter_beside : (t h q x b r : ℕ) (m : Enter y.spaces t c h q x b r) →
      Two c R y y R (with_spaces y (store y.spaces t (q % 512) x)) (with_spaces y (store y.spaces t (q % 512) x))
  enter_beside t h q x b r m = both {R = R} _ _ (entered t t h q x x b b r m m (not_table t h (q / 512) m.place) (λ v f f' e i j.
      let g = m.may v e in
      let f= = same_frame y.spaces.first g.0 f (inside h b v) g.1 i in
      (same_frame y.spaces.first f f' (inside h b v) i j, may_untabled y.spaces c f r (rw f= at g.2)))) ends

  abbrev linked_to : (t u h q x : ℕ) → Machine
  linked_to t u h q x = with_spaces y (with_kind (store y.spaces t (q % 512) x) (upd y.spaces.kind u (table c h q)))

  link_beside : Core y.spaces → (t u h q x : ℕ) (m : Link y.spaces t u c h q x) →
      Two c R y y R (linked_to t u h q x) (linked_to t u h q x)
  link_beside k t u h q x m =
      both {R = R} _ _ (linked t u t u h q x x m m (not_table t (suc h) (q / 512) m.place)
      (λ v f r e i. (f, (refl, says v f r e i), i)) (λ v f r e i. (f, (refl, says v f r e i), i))) ends
    where
      says : (v f r : ℕ) → upper h v / 512 ≡ q → Says y.spaces u h v f r → untabled (y.spaces.kind f) ≡ true
      says v f r e i =
          let n = k.leaves c v h u i.0 r (inr (rw e m.was)) i.1 in
          let f= = same_frame y.spaces.first n.0 f (inside h i.0 v) n.1 i.2 in
          may_untabled y.spaces c f r (rw f= at (n.2.may m.live))

move_beside : (c : ℕ) (y : Machine) → Core y.spaces → (s : Spaces) (a : Move y.spaces s) →
    Two c (Itself y) y y (Itself y) (with_spaces y s) (with_spaces y s)
move_beside c y k s (put f i x u) = both {R = Itself y} _ _ (put_both f f i x u u (refl, u)) ends
move_beside c y k s (claim t d h p m) = quietly c y _ (claim t d h p m) (λ a. a) (λ f a. a)
move_beside c y k s (link t u d h q x m) = elim
    (eq? c d) [ inl e ↦ rw e (link_beside d y k t u h q x m) | inr n ↦ quietly c y _ (link t u d h q x m) (λ z. n z.0) (λ f a. a) ]
move_beside c y k s (enter t d h q x b r m) = elim
    (eq? c d) [ inl e ↦ rw e (enter_beside d y t h q x b r m) | inr n ↦ quietly c y _ (enter t d h q x b r m) n (λ f a. a) ]
move_beside c y k s (clear t d h q x b r S j m) = elim (eq? c d) [
  | inl e ↦ rw e (both {R = Itself y} _ _ (cleared t t h q x x b r b r S S j j m m (not_table d y t h (q / 512) m.place)) ends)
  | inr n ↦ quietly c y _ (clear t d h q x b r S j m) n (λ f a. a)
]
move_beside c y k s (unhook t u d h q x S j W m) = quietly c y _ (unhook t u d h q x S j W m) (λ a. a) (λ f a. a)
move_beside c y k s (hand f g e z) = quietly c y _ (hand f g e z) (λ a. a) (λ f a. a)
move_beside c y k s (lend f d how m) = quietly c y _ (lend f d how m) (λ a. a) (λ f a. a)
move_beside c y k s (retire P g W m) = quietly c y _ (retire P g W m) (λ a. a) (λ f a. a)
move_beside c y k s (release P m) = quietly c y _ (release P m) (λ a. a) (λ f a. a)
move_beside c y k s (open_space d n m) = quietly c y _ (open_space d n m) (λ a. a) (λ f a. a)
move_beside c y k s (end d S j l g w) = quietly c y _ (end d S j l g w) (λ a. a) (λ f a. a)
move_beside c y k s (dissolve d l w) = elim
    (eq? c d) [ inl e ↦ rw e (both {R = Itself y} _ _ (dissolved l w l w) ends) | inr n ↦ quietly c y _ (dissolve d l w) n (λ f a. a) ]

step_beside : (c : ℕ) {y y₁ : Machine} → Good y → (t : Step y y₁) → Two c (Itself y) y y (Itself y) y₁ y₁
step_beside c {y} g (moves s a) = move_beside c y g.core s a
step_beside c {y} g (reports d P D r) = elim
    (eq? c d) [
      | inl e ↦ rw e (both {R = Itself y} _ _ (reported P D D r r refl) ends)
      | inr n ↦ twice c y (reports d P D r) n
          (λ f i u. refl)
    ]
step_beside c {y} g (looks k l) = twice c y (looks k l) tt (λ f i u. refl)
step_beside c {y} g (stores d f o b l w) =
    let s = store_frame y g d f o l w in both {R = Itself y} _ _
    (stored d d f f o b l w w (refl, belongs_untabled y.spaces d f s.0 s.1)) ends

run_beside : (c : ℕ) {y z : Machine} → Good y → Run y z → Two c (Itself y) y y (Itself z) z z
run_beside c g stop = ends
run_beside c {y} g (then {m' = y₁} t r) = append (then_anew c y y₁ (step_beside c g t)) (run_beside c (step_good t g) r)

-- Every run, beside itself.
pub beside_itself : (c : ℕ) {m z : Machine} → Start m → Run m z → Two c no_frames m m (Itself z) z z
beside_itself c {m} st r = repairs (anew c no_frames m (λ f f' x. absurd x)) (run_beside c (start_good st) r)
