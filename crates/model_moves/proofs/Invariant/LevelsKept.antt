-- Every step keeps what is said of levels.
use mathlib.Core.Path.{◌≡◌, refl, sym, ap, ◌∙◌}
use mathlib.Core.Bool.{false, true≢false}
use mathlib.Core.Logic.{inl, inr}
use Prim.Native.Nat.{ℕ, suc, ◌/◌, ◌%◌}
use native.Mathlib.Omega.{arith}
use Rattle.model.proofs.Laws.Base.{lt?}
use Rattle.model.specs.State.{put_byte}
use Rattle.model.specs.Translate.{upper}
use Rattle.model_moves.specs.Spaces.{Spaces, table, exists, store}
use Rattle.model_moves.specs.Cache.{Caches}
use Rattle.model_moves.specs.Moves.{Move, put}
use Rattle.model_moves.specs.Machine.{Machine, with_spaces, Step, moves, reports, looks, stores, Run, stop, then}
use Rattle.model_moves.proofs.Invariant.Core.{Core, Kept, Gone}
use Rattle.model_moves.proofs.Invariant.Holds.{Good, step_good, store_frame, belongs_untabled}
use Rattle.model_moves.proofs.Invariant.Levels.{Levels, no_leaf_above, report_levels, looks_levels}
use Rattle.model_moves.proofs.Invariant.LevelsMoves.{table_back, leaf_on, leaf_back, stale_on, gone_on}

-- nothing is kept of a space that is no longer and clean
none_left : (s : Spaces) (d : ℕ) → Gone s d → exists s d ≡ false → ((j w : ℕ) → s.stale d j w ≡ false) → ⊥
none_left s d g n e = let a = g n in true≢false (sym (a.1 0) ∙ e a.0 0)

move_levels : {s s' : Spaces} (k : Caches) (m : Move s s') → Core s → Core s' → Kept s' k → Levels s k → Levels s' k
unfolding upper
move_levels {s} {s'} k m c c' q z = record {
  level_ok = λ d v l a. elim (z.level_ok d v l a) [
    | inl e ↦ elim (leaf_on c' m d v l e) [
      | inl f ↦ inl f
      | inr f ↦ elim f [
        | inl g ↦ let i = g.1 in inr (record {
          unled = g.0;
          flat = λ h t n b. no_leaf_above s c d v h t l (g.2 t h (upper h v / 512) b) n e;
          slot = i.0;
          all = i.1;
        })
        | inr g ↦ absurd (none_left s d (z.level_gone d v l a) g.0 g.1)
      ]
    ]
    | inr e ↦ inr (record {
      unled = λ l' b. elim (leaf_back c m d v l' b) [
        | inl w ↦ e.unled l' w
        | inr w ↦ true≢false
            (sym (stale_on m d e.slot v (e.all v refl)) ∙ w e.slot)
      ];
      flat = λ h t n b. elim (table_back m t d h (upper h v / 512) b) [
        | inl w ↦ e.flat h t n w
        | inr w ↦ elim w [
          | inl y ↦ none_left s d (z.level_gone d v l a) y.0 y.1
          | inr y ↦ let u = y.0 in elim (lt? (suc h) l) [
            | inl i ↦ e.flat (suc h) u.0 i u.1
            | inr i ↦ let l= : l ≡ suc h = omega arith in
                y.1 e.slot (λ x p. e.all x (ap (λ (n : ℕ). upper n x) l= ∙ p ∙ ap (λ (n : ℕ). upper n v) (sym l=)))
          ]
        ]
      ];
      slot = e.slot;
      all = λ w p. stale_on m d e.slot w (e.all w p);
    })
  ];
  one_level = z.one_level;
  unblocked = λ d h p x v l a e n b. elim (leaf_back c m d v l b) [
    | inl w ↦ z.unblocked d h p x v l a e n w
    | inr w ↦ let o = q.table_ok d h p x a in elim o.2 [
      | inl y ↦ no_leaf_above s' c' d v h o.0 l (y ∙ ap (table d h) (sym e)) n b
      | inr y ↦ let j = y.1 in true≢false (sym (j.2 v e) ∙ w j.0)
    ]
  ];
  apart = z.apart;
  level_gone = λ d v l a. gone_on m d (z.level_gone d v l a);
}

after_move : (m : Machine) (s : Spaces) → Move m.spaces s → Good m → Levels m.spaces m.caches → Good (with_spaces m s) →
    Levels s m.caches
after_move m s a y z g = move_levels m.caches a y.core g.core g.kept z

pub step_levels : {m z : Machine} (t : Step m z) → Good m → Levels m.spaces m.caches → Levels z.spaces z.caches
step_levels {m} (moves s a) y z = after_move m s a y z (step_good {m = m} (moves s a) y)
step_levels {m} (reports c R D r) y z = report_levels m.spaces m.caches c R D r z
step_levels {m} (looks k l) y z = looks_levels m.spaces m.caches y.core y.kept z k l
step_levels {m} (stores c f o b l a) y z =
    let w = store_frame m y c f o l a in
    let x = put_byte (o % 8) (m.spaces.word f (o / 8)) b in
    let u = belongs_untabled m.spaces c f w.0 w.1 in
    after_move m (store m.spaces f (o / 8) x) (put f (o / 8) x u) y z
    (step_good {m = m} (moves (store m.spaces f (o / 8) x) (put f (o / 8) x u)) y)

pub run_levels : {m z : Machine} → Run m z → Good m → Levels m.spaces m.caches → Good z × Levels z.spaces z.caches
run_levels stop y z = (y, z)
run_levels (then a b) y z = run_levels b (step_good a y) (step_levels a y z)
