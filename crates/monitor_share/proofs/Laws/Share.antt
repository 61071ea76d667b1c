-- Laws of specs/Share.
use mathlib.Core.Path.{◌≡◌, refl, sym, ap, ◌∙◌}
use mathlib.Core.Bool.{true, not, ◌&&◌, ◌||◌}
use mathlib.Core.List.{List}
use Prim.Native.Nat.{ℕ}
use native.Mathlib.Omega.{arith}
use lib.Dec.{eqb, ltb}
use borrow.Author.Tests.{ltb-true}
use Rattle.model.specs.Base.{upd, upd2}
use Rattle.model.proofs.Laws.Base.{and_true}
use Rattle.model.specs.State.{State, KindOfFrame, page, is_page_of}
use Rattle.model.specs.Changes.{becomes}
use Rattle.model.specs.Operations.{done, refusal, narrows, share, unshare}
use Rattle.model.specs.Cache.{Caches}
use Rattle.model.specs.Invariant.{Kept}
use Rattle.model.proofs.Invariant.Answer.{Good}
use Rattle.model.proofs.Invariant.Kinds.{page_of_is}
use Rattle.model.proofs.Invariant.Share.{share_good, unshare_good}
use Rattle.ledger.specs.Layout.{size_of, exists_of, dirty_of, root_of, kind_of, shared_of, count_of, word_of, state_in, state_of}
use Rattle.ledger.specs.Fields.{remade, with_share}
use Rattle.ledger.proofs.Laws.Fields.{upd_self}
use Rattle.ledger.specs.LedgerSound.{Changed}
use Rattle.ledger.specs.Sound.{Sound}
use Rattle.ledger.proofs.Laws.Sound.{guest_there}
use Rattle.ledger.proofs.Laws.Kinds.{known_nothing, known_writing}
use Rattle.monitor_contract.specs.Answers.{Operation, out, Done}
use Rattle.monitor_contract.proofs.Laws.Answers.{through}
use Rattle.monitor_contract.specs.LedgerOnly.{Owned}
use Rattle.monitor_contract.proofs.Laws.LedgerOnly.{changed_so}
use Rattle.monitor_share.specs.Share.{sharing, unsharing, extent}

module _ {m l : List ℕ} (ok : Sound m l) (g f h : ℕ) where
  abbrev after : ℕ → State
  after how = becomes (state_of m l) f (page g) (word_of m) (upd2 (shared_of l) f h how)

  owned : (exists_of l g && exists_of l h) ≡ true → ltb f (size_of l) ≡ true → is_page_of (kind_of l f) g ≡ true → Owned l f g h
  owned a b c = record {
    low = ltb-true f (size_of l) b;
    its_page = page_of_is (kind_of l f) g c;
    there = guest_there m l ok h (and_true (exists_of l g) (exists_of l h) a).1;
  }

  shared_end : (o : Operation) (how : ℕ) (l' : List ℕ) → ((k : Caches) → Kept (state_of m l) k → Good k (out o m l)) → Owned l f g h →
      out o m l ≡ done (after how) →
      Changed (with_share f h how) l l' → Done o m l m l'
  shared_end o how l' good x e c = changed_so o (after how) ok good e c same (unfold becomes in refl)
    where
      stays : kind_of l ≡ upd (kind_of l) f (page g)
      stays = sym (upd_self (kind_of l) f) ∙ ap (upd (kind_of l) f) x.its_page

      same : with_share f h how (state_of m l) ≡ after how
      same = unfold with_share remade becomes state_in in ap (λ (K : ℕ → KindOfFrame). remade (state_of m l) K (upd2 (shared_of l) f h how)
          (count_of l) (exists_of l) (root_of l) (dirty_of l) (word_of m)) stays

  module _ (w : ℕ) (r : refusal (share (state_of m l) g f h w) ≡ 0) where
    share_passed : Owned l f g h × (share (state_of m l) g f h w ≡ done (after (extent w)))
    unfolding share state_in
    share_passed =
        let a = through (exists_of l g && exists_of l h) 5 _ (omega arith) r in
        let b = through (not (eqb g h)) 12 _ (omega arith) a.1 in
        let c = through (ltb f (size_of l)) 4 _ (omega arith) b.1 in
        let d = through (is_page_of (kind_of l f) g) 9 _ (omega arith) c.1 in
        let e = through (not (narrows (state_of m l) f h w) || eqb (count_of l f h) 0) 13 _ (omega arith) d.1 in
        let z = through (not (narrows (state_of m l) f h w) || not (dirty_of l h)) 14 _ (omega arith) e.1 in
        (owned a.0 c.0 d.0, a.2 ∙ b.2 ∙ c.2 ∙ d.2 ∙ e.2 ∙ z.2)

    pub share_owned : Owned l f g h
    share_owned = share_passed.0

    pub share_end : (how : ℕ) (l' : List ℕ) → how ≡ extent w → Changed (with_share f h how) l l' → Done (sharing g f h w) m l m l'
    share_end how l' e c = shared_end (sharing g f h w) how l' (λ k q. share_good (state_of m l) ok.core k q g f h w) share_owned
        (share_passed.1 ∙ ap (λ (x : ℕ). done (after x)) (sym e)) c

  module _ (r : refusal (unshare (state_of m l) g f h) ≡ 0) where
    unshare_passed : Owned l f g h × (unshare (state_of m l) g f h ≡ done (after 0))
    unfolding unshare state_in
    unshare_passed =
        let a = through (exists_of l g && exists_of l h) 5 _ (omega arith) r in
        let b = through (ltb f (size_of l)) 4 _ (omega arith) a.1 in
        let c = through (is_page_of (kind_of l f) g && ltb 0 (shared_of l f h)) 9 _ (omega arith) b.1 in
        let d = through (eqb (count_of l f h) 0) 13 _ (omega arith) c.1 in
        let e = through (not (dirty_of l h)) 14 _ (omega arith) d.1 in
        (owned a.0 b.0 (and_true (is_page_of (kind_of l f) g) (ltb 0 (shared_of l f h)) c.0).0, a.2 ∙ b.2 ∙ c.2 ∙ d.2 ∙ e.2)

    pub unshare_owned : Owned l f g h
    unshare_owned = unshare_passed.0

    pub unshare_end : (l' : List ℕ) → Changed (with_share f h 0) l l' → Done (unsharing g f h) m l m l'
    unshare_end l' c = shared_end (unsharing g f h) 0 l' (λ k q. unshare_good (state_of m l) ok.core k q g f h) unshare_owned
        unshare_passed.1 c

-- what the tests of both ask: the guest's row, and what Shared keeps of a stored number
pub ruleset tests = (guest_there, known_nothing, known_writing)
