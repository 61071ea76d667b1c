-- Both computers, step by step.
use mathlib.Core.Path.{◌≡◌, refl, sym, ap, ◌∙◌}
use mathlib.Core.Bool.{Bool, true, false, true≢false}
use mathlib.Core.Logic.{inl, inr}
use Prim.Native.Nat.{ℕ, ◌+◌, ◌*◌, ◌<◌, ◌/◌, ◌%◌}
use borrow.Author.Tests.{eq-eqb}
use Rattle.model.proofs.Laws.Base.{eq?, upd2_at, upd2_other}
use Rattle.model.specs.Base.{upd2}
use Rattle.model.specs.State.{put_byte}
use Rattle.model.specs.Translate.{upper}
use Rattle.model.specs.Cache.{writing}
use Rattle.model_moves.specs.Spaces.{Spaces, table, exists, store, Leads, Clean}
use Rattle.model_moves.specs.Cache.{Reach, forget}
use Rattle.model_moves.specs.Moves.{untabled, Move, put, link, enter, clear, dissolve, Report, reported}
use Rattle.model_moves.specs.Machine.{Machine, with_spaces, byte_stored, Step, moves, stores}
use Rattle.model_moves.proofs.Invariant.Beside.{first_same}
use Rattle.model_two_computers.specs.Terms as T
use Rattle.model_two_computers.specs.Terms.{Frames, SameWords, Aside, Unpaired, Same}
use Rattle.model_moves.proofs.Invariant.Open.{nothing}
use Rattle.model_moves.proofs.Invariant.Dissolve.{dissolved, from'}
use Rattle.model_moves.proofs.Invariant.Holds.{move_holds, step_good}
use Rattle.model_two_computers.proofs.Side.{only, Side, Ghost, step_stays, grow, fade, grow_side, fade_side}
use Rattle.model_two_computers.proofs.Half.{Half, half_second, half_first, flip, entered_leads, cleared_leads, grow_half, fade_half, linked_leads}

pub record Paired (c : ℕ) (R : Frames) (y z : Machine) : Type 1 where
  pub G : Ghost
  pub G' : Ghost
  pub first : Side c G y
  pub second : Side c G' z
  pub forth : Half c R G G' y z
  pub back : Half c (flip R) G' G z y
  pub one_right : (f a b : ℕ) → R f a → R f b → a ≡ b
  pub one_left : (a b f : ℕ) → R a f → R b f → a ≡ b
  pub words : (f f' : ℕ) → R f f' → SameWords y z f f'

pub first_step : {c : ℕ} {R : Frames} {y y₁ z : Machine} (t : Step y y₁) → Aside t c → Paired c R y z →
    ((f f' : ℕ) → R f f' → SameWords y₁ z f f') → Paired c R y₁ z
first_step t n p w = let st = step_stays t n p.first in record {
  G = p.G;
  G' = p.G';
  first = st.side;
  second = p.second;
  forth = half_first st p.forth;
  back = half_second st p.back;
  one_right = p.one_right;
  one_left = p.one_left;
  words = w;
}

pub turned : {c : ℕ} {R : Frames} {y z : Machine} → Paired c R y z → Paired c (flip R) z y
turned p = record {
  G = p.G';
  G' = p.G;
  first = p.second;
  second = p.first;
  forth = p.back;
  back = p.forth;
  one_right = λ f a b. p.one_left a b f;
  one_left = λ a b f. p.one_right f a b;
  words = λ f f' k i. sym (p.words f' f k i);
}

pub second_step : {c : ℕ} {R : Frames} {y z z₁ : Machine} (t : Step z z₁) → Aside t c → Paired c R y z →
    ((f f' : ℕ) → R f f' → SameWords y z₁ f f') → Paired c R y z₁
second_step t n p w = let q = first_step t n (turned p) (λ f f' k i. sym (w f' f k i)) in turned q

-- steps of both
module _ (c : ℕ) (R : Frames) (y z : Machine) (p : Paired c R y z) where
  -- the tables of c, which exists
  tables_step : (s w : Spaces) (a : Move y.spaces s) (b : Move z.spaces w) → exists s c ≡ true → exists w c ≡ true →
      ((v f r : ℕ) → Leads s c v f r → (f' : ℕ) × R f f' × Leads w c v f' r) →
      ((v f r : ℕ) → Leads w c v f r → (f' : ℕ) × R f' f × Leads s c v f' r) →
      ((f f' : ℕ) → R f f' → SameWords (with_spaces y s) (with_spaces z w) f f') → Paired c R (with_spaces y s) (with_spaces z w)
  tables_step s w a b ly lz to from same = record {
    G = grow c s p.G;
    G' = grow c w p.G';
    first = grow_side s a ly p.first;
    second = grow_side w b lz p.second;
    forth = grow_half {y = y} {z = z} s w (first_same a) (first_same b) p.one_right to p.forth;
    back = grow_half {y = z} {z = y} w s (first_same b) (first_same a) (λ f a b. p.one_left a b f) from p.back;
    one_right = p.one_right;
    one_left = p.one_left;
    words = same;
  }

  -- a word of a table that is not paired
  table_words : (t t' i j x x' : ℕ) → Unpaired R t t' → (f f' : ℕ) → R f f' → (k : ℕ) →
      upd2 y.spaces.word t i x f k ≡ upd2 z.spaces.word t' j x' f' k
  table_words t t' i j x x' u f f' q k =
      upd2_other y.spaces.word t i x f k (λ e n. u.0 f' (rw e at q)) ∙ p.words f f' q k
      ∙ sym (upd2_other z.spaces.word t' j x' f' k (λ e n. u.1 f (rw e at q)))

  -- the same word of a pair becomes the same
  pair_words : (a a' i x x' : ℕ) → R a a' → x ≡ x' → (f f' : ℕ) → R f f' → (k : ℕ) →
      upd2 y.spaces.word a i x f k ≡ upd2 z.spaces.word a' i x' f' k
  pair_words a a' i x x' q e f f' q' k = elim (eq? k i) [
    | inr n ↦ upd2_other y.spaces.word a i x f k (λ _ m. n m) ∙ p.words f f' q' k
        ∙ sym (upd2_other z.spaces.word a' i x' f' k (λ _ m. n m))
    | inl n ↦ elim (eq? f a) [
      | inl m ↦
          let m' : f' ≡ a' = p.one_right a f' a' (rw m at q') q in
          upd2_at y.spaces.word a i x f k m n ∙ e ∙ sym (upd2_at z.spaces.word a' i x' f' k m' n)
      | inr m ↦ upd2_other y.spaces.word a i x f k (λ b _. m b) ∙ p.words f f' q' k
          ∙ sym (upd2_other z.spaces.word a' i x' f' k (λ b _. m (p.one_left f a a' (rw b at q') q)))
    ]
  ]

  store_step : (d d' f f' o b : ℕ) (l : o < 4096) (w : Reach y.spaces y.caches d writing ((y.spaces.first + f) * 4096 + o))
      (w' : Reach z.spaces z.caches d' writing ((z.spaces.first + f') * 4096 + o)) → R f f' →
      Paired c R (with_spaces y (byte_stored y.spaces f o b)) (with_spaces z (byte_stored z.spaces f' o b))
  store_step d d' f f' o b l w w' q =
      let st = step_stays (stores d f o b l w) tt p.first in let st' = step_stays (stores d' f' o b l w') tt p.second in record {
        G = p.G;
        G' = p.G';
        first = st.side;
        second = st'.side;
        forth = half_second st' (half_first st p.forth);
        back = half_first st' (half_second st p.back);
        one_right = p.one_right;
        one_left = p.one_left;
        words = pair_words f f' (o / 8) _ _ q (ap (λ (x : ℕ). put_byte (o % 8) x b) (p.words f f' q (o / 8)));
      }

  put_step : (f f' i x : ℕ) (u : untabled (y.spaces.kind f) ≡ true) (u' : untabled (z.spaces.kind f') ≡ true) → R f f' →
      Paired c R (with_spaces y (store y.spaces f i x)) (with_spaces z (store z.spaces f' i x))
  put_step f f' i x u u' q =
      let st = step_stays (moves _ (put f i x u)) (λ a. a) p.first in
      let st' = step_stays (moves _ (put f' i x u')) (λ a. a) p.second in record {
        G = p.G;
        G' = p.G';
        first = st.side;
        second = st'.side;
        forth = half_second st' (half_first st p.forth);
        back = half_first st' (half_second st p.back);
        one_right = p.one_right;
        one_left = p.one_left;
        words = pair_words f f' i x x q refl;
      }

  report_step : (P D D' : ℕ → Bool) (m : Report y.spaces c P D) (n : Report z.spaces c P D') →
      exists y.spaces c ≡ exists z.spaces c →
      Paired c R (record { spaces = reported y.spaces c D; caches = forget y.caches c P })
      (record { spaces = reported z.spaces c D'; caches = forget z.caches c P })
  report_step P D D' m n e = record {
    G = fade c P y.spaces p.G;
    G' = fade c P z.spaces p.G';
    first = fade_side P D m p.first;
    second = fade_side P D' n p.second;
    forth = fade_half {y = y} {z = z} P D D' e p.forth;
    back = fade_half {y = z} {z = y} P D' D (sym e) p.back;
    one_right = p.one_right;
    one_left = p.one_left;
    words = p.words;
  }

  -- nothing is found of a space that is no longer and of which nothing is stale
  dissolve_step : (l : exists y.spaces c ≡ false) (w : Clean y.spaces c) (l' : exists z.spaces c ≡ false)
      (w' : Clean z.spaces c) →
      Paired c R (with_spaces y (dissolved y.spaces c l w)) (with_spaces z (dissolved z.spaces c l' w'))
  dissolve_step l w l' w' = record {
    G = p.G;
    G' = p.G';
    first = side y p.G p.first l w;
    second = side z p.G' p.second l' w';
    forth = record { at = λ v x r g. absurd (none y p.G p.first l w v x r g) };
    back = record { at = λ v x r g. absurd (none z p.G' p.second l' w' v x r g) };
    one_right = p.one_right;
    one_left = p.one_left;
    words = p.words;
  }
    where
      none : (m : Machine) (G : Ghost) → Side c G m → (l : exists m.spaces c ≡ false) → Clean m.spaces c → (v x r : ℕ) → G v x r → ⊥
      none m G S l w v x r g = nothing m.spaces c c l w refl (S.holds.kept.page_gone c v x r (refl, g))

      side : (m : Machine) (G : Ghost) → Side c G m → (l : exists m.spaces c ≡ false) (w : Clean m.spaces c) →
          Side c G (with_spaces m (dissolved m.spaces c l w))
      side m G S l w = record {
        good = step_good (moves _ (dissolve c l w)) S.good;
        holds = move_holds (only c G) (dissolve c l w) S.holds;
        kept_in = S.kept_in;
        led_in = λ o v f r k. absurd (true≢false (sym (eq-eqb c c refl)
            ∙ (from' m.spaces c l w k.1 (table c k.0 (upper k.0 v / 512)) k.2 refl).1));
      }

pub same_step : {c : ℕ} {R : Frames} {y z y₁ z₁ : Machine} {t : Step y y₁} {u : Step z z₁} → Same c R y z y₁ z₁ t u → Paired c R y z →
    Paired c R y₁ z₁
same_step {c} {R} {y} {z} (T.entered t t' h q x x' b b' r m n u pairs) p =
    tables_step c R y z p _ _ (enter t c h q x b r m) (enter t' c h q x' b' r n) m.live n.live
    (entered_leads c R p.G p.G' y z p.first p.forth m.live t t' h q x x' b b' r m n pairs)
    (entered_leads c (flip R) p.G' p.G z y p.second p.back n.live t' t h q x' x b' b r n m
    (λ v f f' e i j. pairs v f' f e j i))
    (table_words c R y z p t t' (q % 512) (q % 512) x x' u)
same_step {c} {R} {y} {z} (T.cleared t t' h q x x' b r b' r' S S' j j' m n u) p =
    tables_step c R y z p _ _ (clear t c h q x b r S j m) (clear t' c h q x' b' r' S' j' n) m.live n.live
    (cleared_leads c R p.G p.G' y z p.first p.forth m.live t t' h q x x' b r b' r' S S' j j' m n p.first.good.core)
    (cleared_leads c (flip R) p.G' p.G z y p.second p.back n.live t' t h q x' x b' r' b r S' S j' j n m
    p.second.good.core)
    (table_words c R y z p t t' (q % 512) (q % 512) x x' u)
same_step {c} {R} {y} {z} (T.linked t u t' u' h q x x' m n un to from) p =
    tables_step c R y z p _ _ (link t u c h q x m) (link t' u' c h q x' n) m.live n.live
    (linked_leads c R p.G p.G' y z p.first p.forth m.live t u t' u' h q x x' m n to)
    (linked_leads c (flip R) p.G' p.G z y p.second p.back n.live t' u' t u h q x' x n m from)
    (table_words c R y z p t t' (q % 512) (q % 512) x x' un)
same_step {c} {R} {y} {z} (T.dissolved l w l' w') p = dissolve_step c R y z p l w l' w'
same_step {c} {R} {y} {z} (T.reported P D D' m n e) p = report_step c R y z p P D D' m n e
same_step {c} {R} {y} {z} (T.stored d d' f f' o b l w w' q) p = store_step c R y z p d d' f f' o b l w w' q
same_step {c} {R} {y} {z} (T.put_both f f' i x u u' q) p = put_step c R y z p f f' i x u u' q
