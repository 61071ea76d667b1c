-- Laws of specs/Map.
use mathlib.Core.Path.{◌≡◌, refl, sym, ap, ◌∙◌}
use mathlib.Core.Bool.{Bool, true, false, not}
use mathlib.Core.Logic.{inl, inr}
use mathlib.Core.Option.{some}
use mathlib.Core.List.{List}
use Prim.Native.Nat.{ℕ, suc, ◌+◌, ◌<◌, ◌≤◌, ◌/◌, ◌%◌}
use native.Mathlib.Omega.{arith}
use lib.Dec.{ltb, leb}
use lib.ListN.{length}
use borrow.Author.Tests.{le-leb, lt-leb, lt-ltb, le-ltb}
use Rattle.model.proofs.Laws.Base.{lt?}
use Rattle.model.specs.Base.{upd2}
use Rattle.model.specs.State.{NOTHING, WRITING, State, page, page_count, free_frames}
use Rattle.model.specs.Entry.{page_entry}
use Rattle.model.specs.Translate.{mapped, missing}
use Rattle.model.specs.Changes.{Grown, grow, with_page, with_mapping}
use Rattle.model.specs.Operations.{Out, refuse, done, refusal, check, page_address, is_rights, shares, may_map, map}
use Rattle.model.specs.Invariant.{May}
use Rattle.model.proofs.Invariant.Core.{low}
use Rattle.model.proofs.Invariant.Answer.{core_alone, then_is, may_is}
use Rattle.model.proofs.Invariant.MapUnmap.{address_low, map_good}
use Rattle.ledger.specs.Columns.{SHARE_UNIT}
use Rattle.ledger.specs.Layout.{size_of, first_of, exists_of, kind_of, count_of, word_of, pick_of, state_in, state_of}
use Rattle.ledger.specs.Kinds.{known_share}
use Rattle.ledger.specs.Fields.{remade, with_count, with_words}
use Rattle.ledger.specs.LedgerSound.{Changed}
use Rattle.ledger.proofs.Laws.Words.{state_words}
use Rattle.ledger.specs.Sound.{Sound, free_of}
use Rattle.ledger.proofs.Laws.Sound.{free_is, chosen, count_fits}
use Rattle.monitor_contract.specs.Answers.{Done}
use Rattle.monitor_contract.proofs.Laws.Answers.{through}
use Rattle.monitor_tables.specs.Way.{Ended}
use Rattle.monitor_tables.proofs.Laws.Way.{ended_missing}
use Rattle.model.specs.Machine.{Map, answer}
use Rattle.model.proofs.Invariant.Effects.{rows}
use Rattle.model.proofs.Invariant.RoundTrip.{after_map}
use Rattle.monitor_contract.specs.declared.refusals.Refusal.{Refusal}
use Rattle.monitor_contract.specs.Refusals.{refusal_number}
use Rattle.monitor_contract.proofs.Laws.Refusals.{positive}
use Rattle.monitor_contract.specs.Found.{Translates, Finds, Nonzero}
use Rattle.monitor_contract.proofs.Laws.Found.{finds_asked, tested, was_done}
use Rattle.monitor_tables.specs.NewTable.{Growing}
use Rattle.monitor_map.specs.Map.{mapping, six, asked, first_refusal, Granted, Ready}

-- what Shared keeps of a stored number is all that the test looks at
pub shares_known : (n r : ℕ) → shares (known_share n) r ≡ shares n r
unfolding shares
shares_known n r = elim (lt? WRITING n) [
  | inl l ↦ rw (lt-ltb WRITING n l, lt-ltb NOTHING n (omega arith), le-leb WRITING n (omega arith)) refl
  | inr l ↦ rw (le-ltb WRITING n l) refl
]

stuck : (b1 b2 b3 b4 b5 b6 : Bool) (s : State) (o : Out) → (refusal (six b1 b2 b3 b4 b5 b6 (done s)) ≡ 0 → ⊥) →
    six b1 b2 b3 b4 b5 b6 o ≡ refuse (refusal (six b1 b2 b3 b4 b5 b6 (done s)))
unfolding check
stuck false b2 b3 b4 b5 b6 s o ne = refl
stuck true false b3 b4 b5 b6 s o ne = refl
stuck true true false b4 b5 b6 s o ne = refl
stuck true true true false b5 b6 s o ne = refl
stuck true true true true false b6 s o ne = refl
stuck true true true true true false s o ne = refl
stuck true true true true true true s o ne = absurd (ne refl)

module _ (s : State) (f g a r : ℕ) where
  granted : refusal (asked s f g a r (done s)) ≡ 0 → Granted s f g a r
  granted h =
      let p1 = through (s.exists g) 5 _ (omega arith) h in
      let p2 = through (not (s.dirty g)) 14 _ (omega arith) p1.1 in
      let p3 = through (page_address a) 7 _ (omega arith) p2.1 in
      let p4 = through (is_rights r) 8 _ (omega arith) p3.1 in
      let p5 = through (ltb f s.size) 4 _ (omega arith) p4.1 in
      let p6 = through (may_map s f g r) 9 (done s) (omega arith) p5.1 in
      record { exists = p1.0; clean = p2.0; address = p3.0; rights = p4.0; frame = p5.0; may = p6.0 }

  module _ (pick : ℕ → ℕ) where
    map_refused : (k : ℕ) → k ≡ refusal (asked s f g a r (done s)) → (k ≡ 0 → ⊥) → map s f g a r pick ≡ refuse k
    unfolding map
    map_refused k e ne = stuck (s.exists g) (not (s.dirty g)) (page_address a) (is_rights r) (ltb f s.size) (may_map s f g r) s _
        (λ z. ne (e ∙ z)) ∙ ap refuse (sym e)

    module _ (x : Granted s f g a r) where
      map_10 : mapped s g (a / 4096) ≡ true → map s f g a r pick ≡ refuse 10
      unfolding map check
      map_10 e = rw (x.exists, x.clean, x.address, x.rights, x.frame, x.may, e)

      module _ (e : mapped s g (a / 4096) ≡ false) where
        map_3 : leb (missing s g (a / 4096)) (free_frames s) ≡ false → map s f g a r pick ≡ refuse 3
        unfolding map check
        map_3 z = rw (x.exists, x.clean, x.address, x.rights, x.frame, x.may, e, z)

        map_done : leb (missing s g (a / 4096)) (free_frames s) ≡ true → map s f g a r pick ≡ done (with_mapping s f g (a / 4096) r pick)
        unfolding map check
        map_done z = rw (x.exists, x.clean, x.address, x.rights, x.frame, x.may, e, z)

-- the plan
module _ {m l : List ℕ} (ok : Sound m l) (f g a r : ℕ) where
  pub plan_asked : (refusal : Refusal) → refusal_number refusal ≡ first_refusal (state_of m l) f g a r →
      map (state_of m l) f g a r (pick_of l) ≡ refuse (refusal_number refusal)
  plan_asked x e = map_refused (state_of m l) f g a r (pick_of l) (refusal_number x) e (positive x)

  module _ (e : 0 ≡ first_refusal (state_of m l) f g a r) where
    all_granted : Granted (state_of m l) f g a r
    all_granted = granted (state_of m l) f g a r (sym e)

    pub plan_guest : exists_of l g ≡ true
    plan_guest = unfold state_in in all_granted.exists

    pub plan_page : a / 4096 < page_count
    plan_page = address_low a all_granted.address

    module _ {h t : ℕ} (way : Ended (state_of m l) g (a / 4096) h t) (b : Bool) (q : b ≡ mapped (state_of m l) g (a / 4096)) where
      pub plan_10 : b ≡ true → map (state_of m l) f g a r (pick_of l) ≡ refuse 10
      plan_10 y = map_10 (state_of m l) f g a r (pick_of l) all_granted (sym q ∙ y)

      module _ (n : b ≡ false) (c : ℕ) (fr : c ≡ free_of l) where
        pub plan_3 : c < h → map (state_of m l) f g a r (pick_of l) ≡ refuse 3
        plan_3 y =
            let w = ended_missing (state_of m l) ok.core g (a / 4096) h t way in
            let u = free_is l ok.ledger_sound m in
            map_3 (state_of m l) f g a r (pick_of l) all_granted (sym q ∙ n)
            (lt-leb (missing (state_of m l) g (a / 4096)) (free_frames (state_of m l)) (omega arith))

        pub plan_go : h ≤ c → Ready (state_of m l) f g a r h t
        plan_go y = let u = free_is l ok.ledger_sound m in record
            { granted = all_granted; ended = way; unmapped = sym q ∙ n; enough = omega arith }

-- what stays while the missing tables are made, from the highest on: m₀ and l₀ are the slices before, h tables are missing below t
pub record Filling (m₀ l₀ : List ℕ) (f g v : ℕ) (m l : List ℕ) (h t : ℕ) : Type 0 where
  pub growing : Growing m l g v h t
  pub grows : grow 3 (state_of m₀ l₀) g ((state_of m₀ l₀).root g) v (pick_of l₀) ≡ grow h (state_of m l) g t v (pick_of l)
  pub owner : ℕ
  pub page_is : (state_of m l).kind f ≡ page owner

module _ {m₀ l₀ : List ℕ} (ok : Sound m₀ l₀) {f g a r h₀ t₀ : ℕ} (ready : Ready (state_of m₀ l₀) f g a r h₀ t₀) where
  a_page : (o : ℕ) × ((state_of m₀ l₀).kind f ≡ page o)
  a_page = go (may_is (state_of m₀ l₀) g f r ready.granted.may)
    where
      go : May (state_of m₀ l₀) g f r → (o : ℕ) × ((state_of m₀ l₀).kind f ≡ page o)
      go (inl y) = (g, y)
      go (inr y) = (y.0, y.1)

  pub fill_start : Filling m₀ l₀ f g (a / 4096) m₀ l₀ h₀ t₀
  fill_start = record {
    growing = record {
      sound = ok;
      high = ready.ended.reached.high;
      page_low = address_low a ready.granted.address;
      serves = ready.ended.reached.serves;
      nothing_yet = λ k. elim ready.ended.stops [ inl z ↦ absurd (omega arith) | inr z ↦ z ];
      enough = let u = free_is l₀ ok.ledger_sound m₀ in let y = ready.enough in omega arith;
    };
    grows = ready.ended.reached.grows (pick_of l₀);
    owner = a_page.0;
    page_is = a_page.1;
  }

  module _ {m l : List ℕ} {h t : ℕ} (x : Filling m₀ l₀ f g (a / 4096) m l h t) where
    pub fill_low : f < size_of l
    fill_low = unfold state_in in low (state_of m l) x.growing.sound.core f (page x.owner) x.page_is refl

    pub fill_count : (k : ℕ) → k ≡ count_of l f g → k + 1 < SHARE_UNIT
    fill_count k e =
        let p : kind_of l f ≡ page x.owner = unfold state_in in x.page_is in
        let fits = count_fits m l x.growing.sound f x.owner g p in
        omega arith

    pub map_end : h < 1 → (first y k : ℕ) (m' l' : List ℕ) → first ≡ first_of l → y ≡ page_entry first f r →
        word_of m' ≡ upd2 (word_of m) t (a / 4096 % 512) y → length m' ≡ length m →
        k ≡ count_of l f g → Changed (with_count f g (k + 1)) l l' → Done (mapping f g a r) m₀ l₀ m' l'
    map_end z first y k m' l' ef ey ew len ek c = record {
      sound = record {
        ledger_sound = c.ledger_sound;
        ram_fits = let a = x.growing.sound.ram_fits in let b = size_is in omega arith;
        core = then_is (map (state_of m₀ l₀) f g a r (pick_of l₀)) (state_of m' l')
            (core_alone (state_of m₀ l₀) (map (state_of m₀ l₀) f g a r (pick_of l₀))
            (λ k q. map_good (state_of m₀ l₀) ok.core k q f g a r (pick_of l₀) (chosen l₀ ok.ledger_sound m₀))) made;
      };
      made = made;
    }
      where
        words : word_of m' ≡ upd2 (word_of m) t (a / 4096 % 512) (page_entry (first_of l) f r)
        words = ew ∙ ap (upd2 (word_of m) t (a / 4096 % 512)) (ey ∙ ap (λ (b : ℕ). page_entry b f r) ef)

        more : k + 1 ≡ suc ((state_of m l).count f g)
        more = let q : k ≡ (state_of m l).count f g = unfold state_in in ek in omega arith

        same : with_count f g (suc ((state_of m l).count f g))
            (with_words (upd2 (word_of m) t (a / 4096 % 512) (page_entry (first_of l) f r)) (state_of m l)) ≡
            with_page (state_of m l) t (a / 4096 % 512) f r g
        same = unfold with_count with_words remade with_page state_in in refl

        state : state_of m' l' ≡ with_page (state_of m l) t (a / 4096 % 512) f r g
        state =
            c.state m' ∙ ap (with_count f g (k + 1)) (state_words m m' l
            (upd2 (word_of m) t (a / 4096 % 512) (page_entry (first_of l) f r)) words)
            ∙ ap (λ (b : ℕ). with_count f g b (with_words (upd2 (word_of m) t (a / 4096 % 512) (page_entry (first_of l) f r))
            (state_of m l))) more ∙ same

        size_is : size_of l' ≡ size_of l
        size_is = unfold state_in with_page in ap (λ (b : State). b.size) state

        last : grow 0 (state_of m l) g t (a / 4096) (pick_of l) ≡ record { state = state_of m l; last = t }
        last = unfold grow in refl

        grown_is : grow 3 (state_of m₀ l₀) g ((state_of m₀ l₀).root g) (a / 4096) (pick_of l₀) ≡ record { state = state_of m l; last = t }
        grown_is = let z' : h ≡ 0 = omega arith in x.grows ∙ ap (λ (b : ℕ). grow b (state_of m l) g t (a / 4096) (pick_of l)) z' ∙ last

        all_is : with_mapping (state_of m₀ l₀) f g (a / 4096) r (pick_of l₀) ≡ with_page (state_of m l) t (a / 4096 % 512) f r g
        all_is = unfold with_mapping in ap (λ (b : Grown). with_page b.state b.last (a / 4096 % 512) f r g) grown_is

        room : leb (missing (state_of m₀ l₀) g (a / 4096)) (free_frames (state_of m₀ l₀)) ≡ true
        room =
            let b = ended_missing (state_of m₀ l₀) ok.core g (a / 4096) h₀ t₀ ready.ended in
            let d = ready.enough in
            le-leb (missing (state_of m₀ l₀) g (a / 4096)) (free_frames (state_of m₀ l₀)) (omega arith)

        made : map (state_of m₀ l₀) f g a r (pick_of l₀) ≡ done (state_of m' l')
        made = map_done (state_of m₀ l₀) f g a r (pick_of l₀) ready.granted ready.unmapped room ∙ ap done (all_is ∙ sym state)

-- what is promised of an answer of 0
module _ {m l m' l' : List ℕ} (ok : Sound m l) where
  module _ (f g a r : ℕ) (d : Done (mapping f g a r) m l m' l') where
    pub map_effect : Translates (Map f g a r (pick_of l)) m l m' l'
    unfolding answer
    map_effect = then_is (answer (state_of m l) (Map f g a r (pick_of l))) (state_of m' l')
        (rows (state_of m l) ok.core (Map f g a r (pick_of l)) (chosen l ok.ledger_sound m)) d.made

    pub map_found : Finds g a (some (f, r)) m' l'
    map_found = finds_asked m' l' d.sound g a (some (f, r))
        (after_map (state_of m l) ok.core f g a r (pick_of l) (chosen l ok.ledger_sound m) (state_of m' l') d.made)

-- no refusal is 0
pub map_nonzero : (s : State) (f g a r : ℕ) (pick : ℕ → ℕ) → Nonzero (map s f g a r pick)
unfolding map
map_nonzero s f g a r pick =
    tested (s.exists g) 5 _ (omega arith) (tested (not (s.dirty g)) 14 _ (omega arith)
    (tested (page_address a) 7 _ (omega arith) (tested (is_rights r) 8 _ (omega arith)
    (tested (ltb f s.size) 4 _ (omega arith) (tested (may_map s f g r) 9 _ (omega arith)
    (tested (not (mapped s g (a / 4096))) 10 _ (omega arith)
    (tested (leb (missing s g (a / 4096)) (free_frames s)) 3 _ (omega arith) (was_done _))))))))
