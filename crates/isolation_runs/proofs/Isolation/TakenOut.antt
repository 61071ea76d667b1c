-- Nothing leads where a guest is not dirty and its tables lead nowhere: taking out is complete, and a new guest inherits nothing.
use mathlib.Core.Path.{◌≡◌, refl, sym, ap, ◌∙◌}
use mathlib.Core.Bool.{true, false, true≢false, not}
use mathlib.Core.Logic.{inl, inr}
use Prim.Native.Nat.{ℕ, ◌+◌, ◌*◌, ◌<◌, ◌/◌, ◌%◌}
use native.Mathlib.Omega.{arith}
use lib.Dec.{eqb}
use Rattle.model.proofs.Laws.Base.{bool?, eq?, and_true, not_true, upd_at, upd_other}
use Rattle.model.specs.State.{State, table}
use Rattle.model.specs.Operations.{create}
use Rattle.model.specs.Changes.{with_root}
use Rattle.model.specs.Translate.{upper}
use Rattle.model.specs.Cache.{Access, descriptor}
use Rattle.model.proofs.Invariant.Answer.{Then, then_done, then_is, checked}
use Rattle.model_moves.specs.Spaces.{Leads}
use Rattle.model_moves.specs.Cache.{Translation, Reach}
use Rattle.model_moves.proofs.Invariant.Core.{Gone}
use Rattle.model_moves.proofs.Invariant.Found.{page_found, page_found_gone}
use Rattle.model_moves.proofs.Invariant.Entries.{same_frame}
use Rattle.model_moves.proofs.Invariant.Levels.{Levels}
use Rattle.model_paths.specs.View.{whole_slot}
use Rattle.model_paths.proofs.Laws.View.{words_low}
use Rattle.model_paths.proofs.Laws.Reads.{kind_table, output_is, has_none}
use Rattle.ledger.specs.Layout.{count_of, dirty_of, exists_of, state_in, state_of, pick_of}
use Rattle.isolation_runs.specs.Calls.{Create}
use Rattle.isolation_runs.specs.Slices.{Slices, spaces, Reaches, Called}
use Rattle.isolation_runs.specs.Terms.{In, NothingKept}
use Rattle.isolation_runs.proofs.Laws.Answered.{done_at_0}
use Rattle.isolation_runs.proofs.Laws.Steps.{Fit}

module _ (x : Slices) (h : Fit x) (g : ℕ) (clean : dirty_of x.ledger g ≡ false) where
  -- nothing of g is stale, so g exists or nothing is found for it
  fresh : (j v : ℕ) → (spaces x).stale g j v ≡ true → ⊥
  unfolding state_in
  fresh j v e = true≢false (sym (and_true (eqb j whole_slot) (dirty_of x.ledger g) e).1 ∙ clean)

  pub gone_not : Gone (spaces x) g → exists_of x.ledger g ≡ false → ⊥
  unfolding state_in
  gone_not n e = let j = n e in fresh j.0 0 (j.1 0)

  -- what is found now is what the tables say, of a guest that exists
  pub led : {v y r : ℕ} → Translation (spaces x) x.caches g v y r →
      (exists_of x.ledger g ≡ true) × ((f : ℕ) × (y ≡ (spaces x).first + f) × Leads (spaces x) g v f r)
  unfolding state_in
  led {v} {y} {r} t = (
    elim (bool? (exists_of x.ledger g)) [
      | inl e ↦ e
      | inr e ↦ absurd (gone_not (page_found_gone (spaces x) x.caches h.good.core h.good.kept t) e)
    ],
    (let p = page_found (spaces x) x.caches h.good.core h.good.kept t in
        (p.0, p.1, elim p.2 [ inl l ↦ l | inr o ↦ let j = o.1 in absurd (fresh j.0 v j.1) ])),
  )

  pub taken_so : (f : ℕ) → count_of x.ledger f g ≡ 0 → (w : Access) (a : ℕ) → In x a f → Reaches x g w a → ⊥
  unfolding state_in Reach
  taken_so f none w a at r =
      let l = led r.2 in
      let b = l.1 in
      let f= = same_frame (spaces x).first b.0 f (a / 4096) b.1 at in
      let z = rw f= at b.2 in
      has_none (state_of x.ram x.ledger) h.sound.core h.ended g f r.1 l.0 none (r.0, z.0, z.1, inl z.2, z.3)

-- create found neither a guest of this number nor something stale of one
record WasNot (s : State) (g : ℕ) (s' : State) : Type 0 where
  pub absent : s.exists g ≡ false
  pub clean : s.dirty g ≡ false
  pub root : ℕ
  pub made : s' ≡ with_root s g root

create_was : (s : State) (g : ℕ) (pick : ℕ → ℕ) → Then (WasNot s g) (create s g pick)
unfolding create
create_was s g pick = checked 1 λ e1. checked 2 λ e2. checked 3 λ e3.
    let a = and_true (not (s.exists g)) (not (s.dirty g)) e2 in
    then_done (record { absent = not_true (s.exists g) a.0; clean = not_true (s.dirty g) a.1; root = pick 0; made = refl })

module _ (x y : Slices) (h : Fit x) (g : ℕ) (a : Called (Create g) 0 x y) where
  was : WasNot (state_of x.ram x.ledger) g (state_of y.ram y.ledger)
  was = then_is (create (state_of x.ram x.ledger) g (pick_of x.ledger)) (state_of y.ram y.ledger)
      (create_was (state_of x.ram x.ledger) g (pick_of x.ledger)) (done_at_0 (Create g) x.ram x.ledger a.answers refl)

  pub nothing_so : Levels (spaces x) x.caches → NothingKept x g
  unfolding state_in
  nothing_so l = record {
    tables = λ n q p k. gone_not x h g was.clean (h.good.kept.table_gone g n q p k) was.absent;
    pages = λ v p r k. gone_not x h g was.clean (h.good.kept.page_gone g v p r k) was.absent;
    heights = λ v n k. gone_not x h g was.clean (l.level_gone g v n k) was.absent;
  }

  -- a last table of g, in the state right after create
  no_table : (t p : ℕ) → (state_of y.ram y.ledger).kind t ≡ table g 0 p → ⊥
  no_table t p e = go (ap (λ (s : State). s.kind t) (sym was.made) ∙ e)
    where
      go : (with_root (state_of x.ram x.ledger) g was.root).kind t ≡ table g 0 p → ⊥
      go k = elim (eq? t was.root) [
        | inl q ↦
            let z : table g 3 0 ≡ table g 0 p = sym (upd_at (state_of x.ram x.ledger).kind was.root (table g 3 0) t q)
            ∙ (unfold with_root in k) in
            let n : ◌≡◌ {A = ℕ} 3 0 = cc in
            omega arith
        | inr q ↦ true≢false (sym (h.sound.core.table_exists t g 0 p
            (sym (upd_other (state_of x.ram x.ledger).kind was.root (table g 3 0) t q) ∙ (unfold with_root in k))) ∙ was.absent)
      ]

  clean_after : dirty_of y.ledger g ≡ false
  clean_after = unfold state_in in (ap (λ (s : State). s.dirty g) was.made ∙ (unfold with_root in was.clean))

  pub unreached_new : Fit y → (w : Access) (b : ℕ) → Reaches y g w b → ⊥
  unfolding state_in Reach
  unreached_new k w b r =
      let l = led y k g clean_after r.2 in
      let z = l.1.2 in
      let e = z.3 in
      elim (kind_table ((state_of y.ram y.ledger).kind z.1) g z.0 (upper z.0 r.0 / 512) z.2) [
        | inr d ↦ true≢false (sym l.0 ∙ (k.ended.gone z.1 g z.0 (upper z.0 r.0 / 512) d).0)
        | inl d ↦
            let i< : upper z.0 r.0 % 512 < 512 = omega arith in
            let o = output_is (state_of y.ram y.ledger) k.sound.core g z.0
            (upper z.0 r.0 / 512 * 512 + upper z.0 r.0 % 512)
            ((state_of y.ram y.ledger).word z.1 (upper z.0 r.0 % 512)) e.0 r.1
            (k.sound.core.tables z.1 g z.0 (upper z.0 r.0 / 512) d (upper z.0 r.0 % 512) i<)
            (ap (descriptor z.0) (sym (words_low (state_of y.ram y.ledger).word z.1 (upper z.0 r.0 % 512) i<)) ∙ e.1)
            in
            no_table z.1 (upper z.0 r.0 / 512) (d ∙ ap (λ (n : ℕ). table g n (upper z.0 r.0 / 512)) o.0)
      ]
