-- map as an operation of the state, its tests that look at no table, and the plan of its check: what the contracts cite.
use Rattle.std.specs.Prelude.{◌≡◌, Bool, true, false, not, ◌&&◌, ◌||◌, List, ℕ, Result, Ok, Err, ◌≤◌, ◌/◌, ltb}
use Rattle.model.specs.State.{State, is_page, is_page_of, free_frames}
use Rattle.model.specs.Translate.{mapped}
use Rattle.model.specs.Operations.{Out, refuse, done, refusal, check, page_address, is_rights, shares, may_map, map}
use Rattle.ledger.specs.Layout.{kind_of, shared_of}
use Rattle.monitor_contract.specs.Answers.{Operation}
use Rattle.monitor_tables.specs.Way.{Ended}
use Rattle.monitor_tables.specs.declared.way.Place.{Place}
use Rattle.monitor_contract.specs.declared.refusals.Refusal.{Refusal}
use Rattle.monitor_contract.specs.Refusals.{refusal_number}

abbrev pub mapping : (f g a r : ℕ) → Operation
mapping f g a r s pick = map s f g a r pick

-- the six tests that look at no table
abbrev pub six : (b1 b2 b3 b4 b5 b6 : Bool) → Out → Out
six b1 b2 b3 b4 b5 b6 o = check b1 5 (check b2 14 (check b3 7 (check b4 8 (check b5 4 (check b6 9 o)))))

abbrev pub asked : State → (f g a r : ℕ) → Out → Out
asked s f g a r o = six (s.exists g) (not (s.dirty g)) (page_address a) (is_rights r) (ltb f s.size) (may_map s f g r) o

abbrev pub first_refusal : State → (f g a r : ℕ) → ℕ
first_refusal s f g a r = refusal (asked s f g a r (done s))

-- may_map, read off the ledger
abbrev pub allows : List ℕ → (f g r : ℕ) → Bool
allows l f g r = is_page_of (kind_of l f) g || (is_page (kind_of l f) && shares (shared_of l f g) r)

pub record Granted (s : State) (f g a r : ℕ) : Type 0 where
  pub exists : s.exists g ≡ true
  pub clean : not (s.dirty g) ≡ true
  pub address : page_address a ≡ true
  pub rights : is_rights r ≡ true
  pub frame : ltb f s.size ≡ true
  pub may : may_map s f g r ≡ true

-- where the doing starts: table t of height h is the last that is there
pub record Ready (s : State) (f g a r h t : ℕ) : Type 0 where
  pub granted : Granted s f g a r
  pub ended : Ended s g (a / 4096) h t
  pub unmapped : mapped s g (a / 4096) ≡ false
  pub enough : h ≤ free_frames s

abbrev pub IsMapPlan : State → (f g a r : ℕ) (pick : ℕ → ℕ) → Result Place Refusal → Type 0
IsMapPlan s f g a r pick (Err refusal) = map s f g a r pick ≡ refuse (refusal_number refusal)
IsMapPlan s f g a r pick (Ok place) = Ready s f g a r place.height place.table
