-- Laws of specs/Unmap.
use mathlib.Core.Path.{◌≡◌, refl, sym, ap, subst, ◌∙◌}
use mathlib.Core.Bool.{Bool, true}
use mathlib.Core.Logic.{inl, inr}
use mathlib.Core.Option.{none, some}
use mathlib.Core.List.{List}
use Prim.Native.Nat.{ℕ, pred, ◌+◌, ◌-◌, ◌<◌, ◌≤◌, ◌/◌, ◌%◌}
use native.Mathlib.Omega.{arith}
use native.Mathlib.Numerals.{sub-one}
use lib.ListN.{length}
use Rattle.model.specs.Base.{upd2}
use Rattle.model.proofs.Laws.Base.{lt?}
use Rattle.model.specs.State.{page_count, State, table, page, is_guest}
use Rattle.model.specs.Entry.{entry, to_page}
use Rattle.model.specs.Translate.{upper, entry_at, translate, mapped}
use Rattle.model.specs.Changes.{without_page, without_mapping}
use Rattle.model.specs.Operations.{done, check, page_address, unmap}
use Rattle.model.proofs.Laws.Ways.{Shows}
use Rattle.model.specs.Invariant.{May}
use Rattle.model.proofs.Invariant.Core.{low}
use Rattle.model.proofs.Invariant.Counts.{places_zero}
use Rattle.model.proofs.Invariant.Way.{translate_at}
use Rattle.model.proofs.Invariant.MapUnmap.{without_is, unmap_good, address_low}
use Rattle.ledger.specs.Columns.{SHARE_UNIT, GUEST_ROWS}
use Rattle.ledger.proofs.Laws.Fields.{guest_low}
use Rattle.ledger.specs.Layout.{size_of, first_of, exists_of, kind_of, count_of, word_of, state_in, state_of}
use Rattle.ledger.specs.Fields.{remade, with_count, with_dirt, with_words}
use Rattle.ledger.specs.LedgerSound.{Changed}
use Rattle.ledger.specs.Words.{Within}
use Rattle.ledger.proofs.Laws.Words.{state_words}
use Rattle.ledger.specs.Sound.{Sound}
use Rattle.ledger.proofs.Laws.Sound.{within, guest_there, count_fits}
use Rattle.monitor_contract.specs.Answers.{Done}
use Rattle.monitor_contract.proofs.Laws.Answers.{good_done}
use Rattle.monitor_tables.specs.Entries.{ToPage, LeadsTo}
use Rattle.monitor_tables.specs.Way.{Ended}
use Rattle.monitor_tables.proofs.Laws.Way.{way_words, mapped_shows, last_serves, last_leaf}
use Rattle.model.specs.Machine.{Unmap, answer}
use Rattle.model.proofs.Invariant.Answer.{then_is}
use Rattle.model.proofs.Invariant.Effects.{rows}
use Rattle.model.proofs.Invariant.RoundTrip.{after_unmap}
use Rattle.monitor_contract.specs.Found.{Translates, Finds, Nonzero}
use Rattle.monitor_contract.proofs.Laws.Found.{finds_asked, tested, was_done}
use Rattle.monitor_unmap.specs.Unmap.{unmapping, Slotted}

module _ (s : State) (a g : ℕ) where
  unmap_done : s.exists g ≡ true → page_address a ≡ true → mapped s g (a / 4096) ≡ true →
      unmap s a g ≡ done (without_mapping s g (a / 4096))
  unfolding unmap check
  unmap_done e q z = rw (e, q, z)

-- the plan, from where the way ended
module _ {m l : List ℕ} (ok : Sound m l) (a g : ℕ) (ex : exists_of l g ≡ true) (ad : page_address a ≡ true) {h t : ℕ}
    (way : Ended (state_of m l) g (a / 4096) h t) where
  there : (state_of m l).exists g ≡ true
  there = unfold state_in in ex

  -- the entry, and the frame f that it was decoded to
  module _ (b : Bool) (q : b ≡ mapped (state_of m l) g (a / 4096)) (y : b ≡ true) (first x : ℕ) (ef : first ≡ first_of l)
      (e : x ≡ word_of m t (a / 4096 % 512)) where
    abbrev before : State
    before = state_of m l

    shown : (h ≡ 0) × Shows before g (before.word t (a / 4096 % 512)) (entry_at before t (a / 4096 % 512))
    shown = mapped_shows before ok.core g (a / 4096) h t there way (sym q ∙ y)

    read : entry first x ≡ entry_at before t (a / 4096 % 512)
    read = ap (λ (z : ℕ). entry z x) ef ∙ ap (entry (first_of l)) e ∙ (unfold state_in in refl)

    pub plan_leads : ToPage first x
    plan_leads =
        let k = shown.1 in
        let low : k.frame < size_of l = unfold state_in in k.below in
        let room : first_of l + size_of l ≤ page_count = unfold state_in in ok.core.room in
        (k.frame, (k.rights, read ∙ k.reads), omega arith)

    pub plan_slot : (f : ℕ) → LeadsTo first x f → Slotted before a g t f
    plan_slot f (r, reads) =
        let k = shown.1 in
        let same : to_page k.frame k.rights ≡ to_page f r = sym (read ∙ k.reads) ∙ reads in
        let d : k.frame ≡ f = cc in
        subst (λ (z : ℕ). Slotted before a g t z) d (record {
          exists = there;
          address = ad;
          leaf_is = last_leaf before ok.core g (a / 4096) t there h way shown.0;
          serves = last_serves before ok.core g (a / 4096) t there h way shown.0;
          rights = k.rights;
          leads = k.reads;
          may = k.may;
        })

-- the doing
module _ {m l : List ℕ} (ok : Sound m l) {a g t f : ℕ} (x : Slotted (state_of m l) a g t f) where
  pub unmap_guest : is_guest g ≡ true
  unmap_guest = guest_there m l ok g (unfold state_in in x.exists)

  pub unmap_row : g < GUEST_ROWS
  unmap_row = (guest_low g unmap_guest).1

  pub unmap_words : (t < page_count) × Within m t
  unmap_words =
      let k : t < size_of l = unfold state_in in low (state_of m l) ok.core t (table g 0 (upper 1 (a / 4096))) x.serves refl in
      let few = ok.ledger_sound.few in
      (omega arith, within m l ok t k)

  is_a_page : (o : ℕ) × ((state_of m l).kind f ≡ page o)
  is_a_page = go x.may
    where
      go : May (state_of m l) g f x.rights → (o : ℕ) × ((state_of m l).kind f ≡ page o)
      go (inl y) = (g, y)
      go (inr y) = (y.0, y.1)

  pub unmap_low : f < size_of l
  unmap_low = unfold state_in in low (state_of m l) ok.core f (page is_a_page.0) is_a_page.1 refl

  pub unmap_count : (k : ℕ) → k ≡ count_of l f g → (1 ≤ k) × (k < SHARE_UNIT)
  unmap_count k e =
      let p : kind_of l f ≡ page is_a_page.0 = unfold state_in in is_a_page.1 in
      let fits = count_fits m l ok f is_a_page.0 g p in
      (elim (lt? 0 k) [ inl y ↦ y | inr y ↦ absurd (none (sym e ∙ omega arith)) ], omega arith)
    where
      none : count_of l f g ≡ 0 → ⊥
      none z = places_zero (state_of m l) f g (sym (ok.core.counts f g) ∙ (unfold state_in in z)) t (upper 1 (a / 4096))
          (a / 4096 % 512) x.rights
          (low (state_of m l) ok.core t (table g 0 (upper 1 (a / 4096))) x.serves refl) (omega arith) x.serves x.leads

  pub unmap_end : (k : ℕ) (m' l₁ l' : List ℕ) → word_of m' ≡ upd2 (word_of m) t (a / 4096 % 512) 0 → length m' ≡ length m →
      k ≡ count_of l f g →
      Changed (with_count f g (k - 1)) l l₁ → Changed (with_dirt g true) l₁ l' → Done (unmapping a g) m l m' l'
  unmap_end k m' l₁ l' w len e c d = good_done (unmapping a g) after ok (λ k q. unmap_good (state_of m l) ok.core k q g a) made
      d.ledger_sound len (unfold without_page in refl) state
    where
      after : State
      after = without_page (state_of m l) t (a / 4096 % 512) f g

      less : k - 1 ≡ pred ((state_of m l).count f g)
      less = let q : k ≡ (state_of m l).count f g = unfold state_in in e in sub-one k ∙ ap pred q

      same : with_dirt g true (with_count f g (pred ((state_of m l).count f g))
          (with_words (upd2 (word_of m) t (a / 4096 % 512) 0) (state_of m l))) ≡ after
      same = unfold with_dirt with_count with_words remade without_page state_in in refl

      state : state_of m' l' ≡ after
      state =
          d.state m' ∙ ap (with_dirt g true) (c.state m')
          ∙ ap (λ (y : State). with_dirt g true (with_count f g (k - 1) y)) (state_words m m' l (upd2 (word_of m) t (a / 4096 % 512) 0) w)
          ∙ ap (λ (y : ℕ). with_dirt g true (with_count f g y (with_words (upd2 (word_of m) t (a / 4096 % 512) 0) (state_of m l)))) less
          ∙ same

      page_is : translate (state_of m l) g (a / 4096) ≡ some (f, x.rights)
      page_is = translate_at (state_of m l) g (a / 4096) t f x.rights x.leaf_is x.leads

      made : unmap (state_of m l) a g ≡ done after
      made =
          unmap_done (state_of m l) a g x.exists x.address (rw page_is)
          ∙ ap done (without_is (state_of m l) ok.core g (a / 4096) t f x.rights x.leaf_is page_is)

-- what is promised of an answer of 0
module _ {m l m' l' : List ℕ} (ok : Sound m l) where
  module _ (a g : ℕ) (d : Done (unmapping a g) m l m' l') where
    pub unmap_effect : Translates (Unmap a g) m l m' l'
    unfolding answer
    unmap_effect = then_is (answer (state_of m l) (Unmap a g)) (state_of m' l') (rows (state_of m l) ok.core (Unmap a g) tt) d.made

    pub unmap_found : Finds g a none m' l'
    unmap_found = finds_asked m' l' d.sound g a none (after_unmap (state_of m l) ok.core g a (state_of m' l') d.made)

-- what the plan asks on its way: the page's number fits, and the table that the way comes to lies in RAM
pub ruleset plans = (address_low, way_words)

-- no refusal is 0
pub unmap_nonzero : (s : State) (g a : ℕ) → Nonzero (unmap s a g)
unfolding unmap
unmap_nonzero s g a = tested (s.exists g) 5 _ (omega arith)
    (tested (page_address a) 7 _ (omega arith) (tested (mapped s g (a / 4096)) 11 _ (omega arith) (was_done _)))
