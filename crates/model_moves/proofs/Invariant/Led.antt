-- What the tables lead to after a move they led to before; only enter and link add something.
use mathlib.Core.Path.{◌≡◌, refl, ap}
use mathlib.Core.Bool.{cond}
use mathlib.Core.Logic.{◌⊎◌, inl}
use Prim.Native.Nat.{ℕ, suc, ◌+◌, ◌/◌}
use Rattle.model.specs.Base.{upd, upd2}
use Rattle.model.proofs.Laws.Base.{upd_other}
use Rattle.model.specs.Translate.{upper}
use Rattle.model.specs.Cache.{output, descriptor, inside}
use Rattle.model_moves.specs.Spaces.{free, Spaces, claimed, page, draining, Says, Leads}
use Rattle.model_moves.specs.Moves.{Move, put, claim, link, enter, clear, unhook, hand, lend, retire, release, open_space, end, dissolve}
use Rattle.model_moves.proofs.Invariant.Quiet.{leads_from}
use Rattle.model_moves.proofs.Invariant.Ledger.{put_tables, taken_tables}
use Rattle.model_moves.proofs.Invariant.Draining.{retire_tables, release_tables}
use Rattle.model_moves.proofs.Invariant.Entries.{leads_new}
use Rattle.model_moves.proofs.Invariant.Clear.{clear_led}
use Rattle.model_moves.proofs.Invariant.Link.{linked_new}
use Rattle.model_moves.proofs.Invariant.Unhook.{unhooked_led}
use Rattle.model_moves.proofs.Invariant.Open.{opened_led}
use Rattle.model_moves.proofs.Invariant.Dissolve.{dissolved_led}

-- what a move adds: page v of space c is at frame f, with rights r
abbrev pub Added : {s s' : Spaces} → Move s s' → (c v f r : ℕ) → Type 0
Added (put f i x u) d v a b = ⊥
Added (claim t c h p m) d v a b = ⊥
Added {s} (link t t' c h q x m) d v a b = (d ≡ c) × (upper (suc h) v ≡ q) × (upper h v / 512 ≡ q) × Says s t' h v a b
Added {s} (enter t c h q x y r m) d v a b =
    (d ≡ c) × (upper h v ≡ q) × ((y : ℕ) × (descriptor h x ≡ output y b) × (inside h y v ≡ s.first + a))
Added (clear t c h q x y r S j m) d v a b = ⊥
Added (unhook t t' c h q x S j W m) d v a b = ⊥
Added (hand f g e z) d v a b = ⊥
Added (lend f c how m) d v a b = ⊥
Added (retire P g W m) d v a b = ⊥
Added (release P m) d v a b = ⊥
Added (open_space c n m) d v a b = ⊥
Added (end c S j l g e) d v a b = ⊥
Added (dissolve c l e) d v a b = ⊥

pub led_before : {s s' : Spaces} (m : Move s s') (c v f r : ℕ) → Leads s' c v f r → Leads s c v f r ⊎ Added m c v f r
led_before {s} (put f i x u) d v a b l =
    inl (leads_from s s.kind s.shared s.waits s.stale (upd2 s.word f i x) (put_tables s f i x u) d v a b l)
led_before {s} (claim t c h p m) d v a b l =
    inl (leads_from s (upd s.kind t (claimed c h p)) s.shared s.waits s.stale s.word
    (taken_tables s t (claimed c h p) m.was refl s.shared (λ t c n. refl)) d v a b l)
led_before {s} (link t t' c h q x m) d v a b l = linked_new s t t' c h q x m d v a b l
led_before {s} (enter t c h q x y r m) d v a b l = leads_new s t c h q x m.place d v a b l
led_before {s} (clear t c h q x y r S j m) d v a b l = inl (clear_led s t c h q x y r S j m d v a b l)
led_before {s} (unhook t t' c h q x S j W m) d v a b l = inl (unhooked_led s t t' c h q x S j W m d v a b l)
led_before {s} (hand f g e z) d v a b l =
    inl (leads_from s (upd s.kind f (page g)) sh s.waits s.stale s.word
    (taken_tables s f (page g) e refl sh (λ t c n. ap (λ (z : ℕ → ℕ). z c) (upd_other s.shared f (λ c. 0) t n))) d v a b l)
  where
    sh : ℕ → ℕ → ℕ
    sh = upd s.shared f (λ c. 0)
led_before {s} (lend f c how m) d v a b l = inl l
led_before {s} (retire P g W m) d v a b l =
    inl (leads_from s (λ f. cond (P f) (draining g) (s.kind f)) s.shared (λ f. cond (P f) W (s.waits f)) s.stale s.word
    (retire_tables s P g W m) d v a b l)
led_before {s} (release P m) d v a b l =
    inl (leads_from s (λ f. cond (P f) free (s.kind f)) s.shared s.waits s.stale s.word (release_tables s P m) d v a b l)
led_before {s} (open_space c n m) d v a b l = inl (opened_led s c n m d v a b l)
led_before {s} (end c S j e g w) d v a b l = inl l
led_before {s} (dissolve c l e) d v a b z = inl (dissolved_led s c l e d v a b z)
