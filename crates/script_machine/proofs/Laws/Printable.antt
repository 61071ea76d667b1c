-- What a command answers can be printed: of a frame and the ledger only a machine that is ready tells.
use mathlib.Core.Path.{◌≡◌, refl}
use mathlib.Core.Bool.{Bool, true, false, cond}
use mathlib.Core.List.{List}
use Prim.Native.Nat.{ℕ, ◌-◌, ◌/◌}
use lib.ListN.{length}
use Rattle.memory.specs.Ram.{frame_bytes}
use Rattle.memory.specs.Word.{word_at}
use Rattle.walk.specs.declared.Answer.{Answer}
use Rattle.ledger.specs.Layout.{exists_of}
use Rattle.script_language.specs.declared.Operation.{Operation}
use Rattle.script_language.specs.declared.Command.{Command}
use Rattle.script_language.specs.declared.Command.TheVariants.{SetUp, StoreWord, Operate, Ask}
use Rattle.script_language.specs.declared.Question.{Question}
use Rattle.script_language.specs.declared.Question.TheVariants.{PeekWord, WalkStage2, WalkBoth, Translate, Frame as AskFrame, Guest as AskGuest, Ledger as AskLedger}
use Rattle.script_machine.specs.declared.Machine.{Machine}
use Rattle.script_machine.specs.declared.Outcome.{Outcome}
use Rattle.script_machine.specs.declared.Reply.{Reply}
use Rattle.script_machine.specs.declared.Reply.TheVariants.{OutsideRam, Number, Contents, Walked, Frame, Guest, Ledger, SetupNeeded}
use Rattle.script_machine.specs.Machine.{ledger_of, allowed_of, word_in_ram, outcome, if_ready, translate_reply, reply_to, SetupEffect, WordEffect, OperationEffect, Effect, Executed}
use Rattle.script_machine.specs.Printable.{Printable}

-- what a command answers can be printed
module _ (m : Machine) (r : Outcome) where
  printable_so : (x : Reply) → Printable m x → r ≡ outcome m x → Printable r.machine r.reply
  printable_so x h e = rw e h

  printable_if_ready : (x : Reply) → (m.ready ≡ true → Printable m x) → Printable m (if_ready m x)
  printable_if_ready x h = go m.ready h
    where
      go : (t : Bool) → (t ≡ true → Printable m x) → Printable m (cond t x SetupNeeded)
      go true h = h refl
      go false h = tt

  contents_printable : (t : Bool) (v : ℕ) → Printable m (cond t (Contents v) OutsideRam)
  contents_printable true v = tt
  contents_printable false v = tt

  walk_printable : (t : Bool) (a : Answer) → Printable m (cond t (Walked a) (Number 5))
  walk_printable true a = tt
  walk_printable false a = tt

  reply_printable : (ram l : List ℕ) (q : Question) → Printable m (reply_to q m ram l)
  unfolding translate_reply
  reply_printable ram l (PeekWord a) = contents_printable (word_in_ram m a) (word_at ram (a - m.base))
  reply_printable ram l (WalkStage2 root ipa access) = tt
  reply_printable ram l (WalkBoth root1 root2 va access el) = tt
  reply_printable ram l (Translate g ipa access) = printable_if_ready _ (λ _. walk_printable (exists_of (ledger_of m l) g) _)
  reply_printable ram l (AskFrame f) = printable_if_ready (Frame f) (λ h. h)
  reply_printable ram l (AskGuest g) = printable_if_ready (Guest _) (λ _. tt)
  reply_printable ram l AskLedger = printable_if_ready Ledger (λ h. h)

  module _ (ram l ram' l' : List ℕ) where
    setup_printable : (t : Bool) (n b k : ℕ) → SetupEffect t n b k m ram l ram' l' r → Printable r.machine r.reply
    setup_printable true n b k x = rw x.0 tt
    setup_printable false n b k x = rw x.0 tt

    word_printable : (t : Bool) (a v : ℕ) → WordEffect t a v m ram l ram' l' r → Printable r.machine r.reply
    word_printable true a v x = rw x.0 tt
    word_printable false a v x = rw x.0 tt

    operation_printable : (t : Bool) (o : Operation) → OperationEffect t o m ram l ram' l' r → Printable r.machine r.reply
    operation_printable true o x = rw x.1 tt
    operation_printable false o x = rw x.0 tt

    effect_printable : (c : Command) → Effect c m ram l ram' l' r → Printable r.machine r.reply
    effect_printable (SetUp n b k) x = setup_printable (allowed_of (length ram / frame_bytes) (length l) n b k) n b k x
    effect_printable (StoreWord a v) x = word_printable (word_in_ram m a) a v x
    effect_printable (Operate o) x = operation_printable m.ready o x
    effect_printable (Ask q) x = printable_so _ (reply_printable ram l q) x.0

pub printable : {c : Command} {m : Machine} {ram l ram' l' : List ℕ} {r : Outcome}
    → Executed c m ram l ram' l' r → Printable r.machine r.reply
printable {c} {m} {ram} {l} {ram'} {l'} {r} x = effect_printable m r ram l ram' l' c x.effect
