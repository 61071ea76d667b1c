-- What a move does to the tables of one space, it does to no other: what they lead to there is the same before and after. The half of the
-- theorem on two runs that is about tables.
use mathlib.Core.Path.{◌≡◌, refl, ap}
use mathlib.Core.Bool.{cond}
use mathlib.Core.Logic.{inl, inr}
use Prim.Native.Nat.{ℕ, ◌+◌, ◌/◌, ◌%◌, ◌*◌, ◌<◌}
use borrow.Author.Tests.{ne_eqb}
use Rattle.model.specs.Base.{upd, upd2}
use Rattle.model.proofs.Laws.Base.{upd_other}
use Rattle.model.specs.Translate.{upper}
use Rattle.model.specs.Cache.{writing}
use Rattle.model_moves.specs.Spaces.{Spaces, free, claimed, table, page, draining, Leads, store}
use Rattle.model_moves.specs.Moves.{Move, put, claim, link, enter, clear, unhook, hand, lend, retire, release, open_space, end, dissolve}
use Rattle.model_moves.proofs.Invariant.Core.{no_output}
use Rattle.model_moves.proofs.Invariant.Quiet.{leads_to, leads_from}
use Rattle.model_moves.proofs.Invariant.Ledger.{put_tables, taken_tables}
use Rattle.model_moves.proofs.Invariant.Draining.{retire_tables, release_tables}
use Rattle.model_moves.proofs.Invariant.Entries.{here?, set_leads, still_leads}
use Rattle.model_moves.proofs.Invariant.Link.{link_leads}
use Rattle.model_moves.proofs.Invariant.Unhook.{unhook_leads}
use Rattle.model_moves.proofs.Invariant.Open.{open_leads}
use Rattle.model_moves.proofs.Invariant.Dissolve.{keep'}
use Rattle.model_moves.proofs.Invariant.Led.{Added, led_before}
use Rattle.model.specs.State.{put_byte}
use Rattle.model_moves.specs.Cache.{Reach}
use Rattle.model_moves.specs.Machine.{Machine}
use Rattle.model_moves.specs.Terms.{Touches}
use Rattle.model_moves.proofs.Invariant.Holds.{Good, store_frame, belongs_untabled}

added_touches : {s s' : Spaces} (m : Move s s') (d v f r : ℕ) → Added m d v f r → Touches m d
added_touches (put f i x u) d v a b z = z
added_touches (claim t c h p m) d v a b z = z
added_touches (link t t' c h q x m) d v a b z = (z.0, (v, a, b, z.2, z.3))
added_touches (enter t c h q x y r m) d v a b z = z.0
added_touches (clear t c h q x y r S j m) d v a b z = absurd z
added_touches (unhook t t' c h q x S j W m) d v a b z = z
added_touches (hand f g e w) d v a b z = z
added_touches (lend f c how m) d v a b z = z
added_touches (retire P g W m) d v a b z = z
added_touches (release P m) d v a b z = z
added_touches (open_space c n m) d v a b z = z
added_touches (end c S j l g e) d v a b z = z
added_touches (dissolve c l e) d v a b z = absurd z

still : {s s' : Spaces} (m : Move s s') (d v f r : ℕ) → (Touches m d → ⊥) → Leads s d v f r → Leads s' d v f r
still {s} (put f i x u) d v a b n l =
    leads_to s s.kind s.shared s.waits s.stale (upd2 s.word f i x) (put_tables s f i x u) d v a b l
still {s} (claim t c h p m) d v a b n l =
    leads_to s (upd s.kind t (claimed c h p)) s.shared s.waits s.stale s.word
    (taken_tables s t (claimed c h p) m.was refl s.shared (λ t c n. refl)) d v a b l
still {s} (link t t' c h q x m) d v a b n l = link_leads s t t' c h q x m d v a b l
still {s} (enter t c h q x y r m) d v a b n l = still_leads s t c h q x m.place (λ y' r' e. no_output m.empty e) d v a b l
still {s} (clear t c h q x y r S j m) d v a b n l = elim (here? s t c h q x m.place l.1 d l.0 (upper l.0 v) l.2) [
  | inr z ↦ set_leads s t c h q x m.place d v l.0 l.1 a b l.2 z.1 l.3
  | inl z ↦ absurd (n z.1)
]
still {s} (unhook t t' c h q x S j W m) d v a b n l = unhook_leads s t t' c h q x S j W m d v a b l
still {s} (hand f g e z) d v a b n l =
    leads_to s (upd s.kind f (page g)) sh s.waits s.stale s.word
    (taken_tables s f (page g) e refl sh (λ t c n. ap (λ (z : ℕ → ℕ). z c) (upd_other s.shared f (λ c. 0) t n))) d v a b l
  where
    sh : ℕ → ℕ → ℕ
    sh = upd s.shared f (λ c. 0)
still {s} (lend f c how m) d v a b n l = l
still {s} (retire P g W m) d v a b n l =
    leads_to s (λ f. cond (P f) (draining g) (s.kind f)) s.shared (λ f. cond (P f) W (s.waits f)) s.stale s.word
    (retire_tables s P g W m) d v a b l
still {s} (release P m) d v a b n l =
    leads_to s (λ f. cond (P f) free (s.kind f)) s.shared s.waits s.stale s.word (release_tables s P m) d v a b l
still {s} (open_space c k m) d v a b n l = open_leads s c k m d v a b l
still {s} (end c S j e g w) d v a b n l = l
still {s} (dissolve c e w) d v a b n l =
    (l.0, l.1, keep' s c e w l.1 (table d l.0 (upper l.0 v / 512)) l.2 (ne_eqb d c n), l.3)

pub beside : {s s' : Spaces} (m : Move s s') (d : ℕ) → (Touches m d → ⊥) → (v f r : ℕ) →
    (Leads s d v f r → Leads s' d v f r) × (Leads s' d v f r → Leads s d v f r)
beside m d n v f r = (still m d v f r n, λ l. elim (led_before m d v f r l) [ inl a ↦ a | inr a ↦ absurd (n (added_touches m d v f r a)) ])

pub first_same : {s s' : Spaces} → Move s s' → s'.first ≡ s.first
first_same (put f i x u) = refl
first_same (claim t c h p m) = refl
first_same (link t t' c h q x m) = refl
first_same (enter t c h q x y r m) = refl
first_same (clear t c h q x y r S j m) = refl
first_same (unhook t t' c h q x S j W m) = refl
first_same (hand f g e z) = refl
first_same (lend f c how m) = refl
first_same (retire P g W m) = refl
first_same (release P m) = refl
first_same (open_space c n m) = refl
first_same (end c S j l g e) = refl
first_same (dissolve c l e) = refl

pub store_leads : (m : Machine) → Good m →
    (d a o b : ℕ) (l : o < 4096) (w : Reach m.spaces m.caches d writing ((m.spaces.first + a) * 4096 + o)) (c v e r : ℕ) →
    let x = put_byte (o % 8) (m.spaces.word a (o / 8)) b in
    (Leads m.spaces c v e r → Leads (store m.spaces a (o / 8) x) c v e r) ×
    (Leads (store m.spaces a (o / 8) x) c v e r → Leads m.spaces c v e r)
store_leads m g d a o b l w c v e r =
    let z = store_frame m g d a o l w in
    let x = put_byte (o % 8) (m.spaces.word a (o / 8)) b in
    let p = put_tables m.spaces a (o / 8) x (belongs_untabled m.spaces d a z.0 z.1) in (
      leads_to m.spaces m.spaces.kind m.spaces.shared m.spaces.waits m.spaces.stale
          (upd2 m.spaces.word a (o / 8) x) p c v e r,
      leads_from m.spaces m.spaces.kind m.spaces.shared m.spaces.waits m.spaces.stale
          (upd2 m.spaces.word a (o / 8) x) p c v e r,
    )
