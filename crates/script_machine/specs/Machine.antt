-- What each command answers, and what it does to the machine, its RAM and its ledger.
-- RAM and the ledger are the first parts of the two slices that the program lends; before a `setup` there are none.
use Rattle.std.specs.Prelude.{ℕ, ◌+◌, ◌-◌, ◌*◌, ◌/◌, ◌≤◌, ◌≡◌, Bool, true, false, not, cond, ◌&&◌, ◌||◌, List, ltb, leb, length, take, drop}
use Rattle.memory.specs.Ram.{frame_bytes, ram_fits}
use Rattle.memory.specs.Word.{word_at, stored_at, cleared_at}
use Rattle.walk.specs.Both.{answer_2, answer}
use Rattle.model.specs.State.{tabled}
use Rattle.ledger.specs.Layout.{words_for, first_of, kind_of, exists_of, root_of, state_of}
use Rattle.ledger.specs.Sound.{Sound}
use Rattle.monitor.specs.Answers.{Answers}
use Rattle.monitor.specs.SetUp as Start
use Rattle.monitor_query.specs.Questions.{guest_told}
use Rattle.script_machine.specs.Operations.{operation}
use Rattle.script_language.specs.declared.Operation.{Operation}
use Rattle.script_language.specs.declared.Command.{Command}
use Rattle.script_language.specs.declared.Command.TheVariants.{SetUp, StoreWord, Operate, Ask}
use Rattle.script_language.specs.declared.Question.{Question}
use Rattle.script_language.specs.declared.Question.TheVariants.{PeekWord, WalkStage2, WalkBoth, Translate, Frame as AskFrame, Guest as AskGuest, Ledger as AskLedger}
use Rattle.script_machine.specs.declared.Machine.{Machine}
use Rattle.script_machine.specs.declared.Outcome.{Outcome}
use Rattle.script_machine.specs.declared.Reply.{Reply}
use Rattle.script_machine.specs.declared.Reply.TheVariants.{Done, OutsideRam, Number, Contents, Walked, Frame, Guest, Ledger, SetupNeeded}

-- a word of 64 bits
abbrev pub word_bytes : ℕ
word_bytes = 8

-- document 03, section 2: 4 is a number out of range, and so are numbers that `setup` does not take; 5 is no such guest
abbrev pub out_of_range : ℕ
out_of_range = 4

abbrev pub no_such_guest : ℕ
no_such_guest = 5

-- the machine's parts of the lent slices
abbrev pub ram_of : Machine → List ℕ → List ℕ
ram_of m ram = take (frame_bytes * m.frames) ram

abbrev pub ledger_of : Machine → List ℕ → List ℕ
ledger_of m ledger = take (words_for m.frames) ledger

-- the machine's RAM is in the lent slice
abbrev pub RamLent : Machine → List ℕ → Type 0
RamLent m ram = frame_bytes * m.frames ≤ length ram

-- What holds between commands. Where the machine is ready, the monitor can count on its RAM and its ledger, and the ledger is of RAM
-- from the machine's base. (The ledger is then in its slice too: proofs/Laws/Parts.antt.)
pub record MachineSound (m : Machine) (ram ledger : List ℕ) : Type 0 where
  pub within : RamLent m ram
  pub sound : m.ready ≡ true → Sound (ram_of m ram) (ledger_of m ledger)
  pub based : m.ready ≡ true → m.base ≡ frame_bytes * first_of (ledger_of m ledger)

-- document 01, section 1: n frames from b; of the first k, the monitor's, there are fewer; and as many frames are lent, and the words
-- of their ledger
unfoldable pub allowed_of : (lent words n b k : ℕ) → Bool
allowed_of lent words n b k =
    ram_fits b n && leb n lent && leb (words_for n) words && ltb k n

-- the eight bytes at physical address a are all in RAM
unfoldable pub word_in_ram : Machine → ℕ → Bool
word_in_ram m a = leb m.base a && leb (a + word_bytes) (m.base + frame_bytes * m.frames)

-- and one of them is in a frame that the ledger has for a table, in use or draining
unfoldable pub word_in_table : Machine → List ℕ → ℕ → Bool
word_in_table m ledger a =
    tabled (kind_of (ledger_of m ledger) ((a - m.base) / frame_bytes))
    || tabled (kind_of (ledger_of m ledger) ((a - m.base + 7) / frame_bytes))

abbrev pub outcome : Machine → Reply → Outcome
outcome m r = record { machine = m; reply = r }

abbrev pub machine_of : (base frames : ℕ) → (ready : Bool) → Machine
machine_of b n t = record { base = b; frames = n; ready = t }

-- a command that only answers
abbrev pub AnswersOnly : Reply → Machine → (ram ledger ram' ledger' : List ℕ) → Outcome → Type 0
AnswersOnly x m ram l ram' l' r = (r ≡ outcome m x) × (ram' ≡ ram) × (l' ≡ l)

-- `setup N B K`: "On 0 the RAM is all zero"; the ledger is what the monitor's set-up makes, in its part of the slice
pub record SetupDone (b n k : ℕ) (ram l ram' l' : List ℕ) : Type 0 where
  pub cleared : ram' ≡ cleared_at ram 0 (frame_bytes * n)
  pub started : Start.SetUp b n k (take (frame_bytes * n) ram') (take (words_for n) l) 0 (take (words_for n) l')
  pub rest : drop (words_for n) l' ≡ drop (words_for n) l

abbrev pub SetupEffect : Bool → (n b k : ℕ) → Machine → (ram ledger ram' ledger' : List ℕ) → Outcome → Type 0
SetupEffect true n b k m ram l ram' l' r = (r ≡ outcome (machine_of b n true) (Number 0)) × SetupDone b n k ram l ram' l'
SetupEffect false n b k m ram l ram' l' r = AnswersOnly (Number out_of_range) m ram l ram' l' r

-- `word A V`: "Writes them, lowest first". Where one of them is in a table, the monitor can count on RAM and ledger no longer.
abbrev pub WordEffect : Bool → (a v : ℕ) → Machine → (ram ledger ram' ledger' : List ℕ) → Outcome → Type 0
WordEffect true a v m ram l ram' l' r =
    (r ≡ outcome (machine_of m.base m.frames (m.ready && not (word_in_table m l a))) Done)
    × (ram' ≡ stored_at ram (a - m.base) v) × (l' ≡ l)
WordEffect false a v m ram l ram' l' r = AnswersOnly OutsideRam m ram l ram' l' r

-- "the operation's answer, a number": the monitor works in the machine's parts of the slices, and leaves the rest
pub record OperationDone (o : Operation) (m : Machine) (ram l : List ℕ) (k : ℕ) (ram' l' : List ℕ) : Type 0 where
  pub answers : Answers (operation o) (ram_of m ram) (ledger_of m l) k (ram_of m ram') (ledger_of m l')
  pub ram_rest : drop (frame_bytes * m.frames) ram' ≡ drop (frame_bytes * m.frames) ram
  pub ledger_rest : drop (words_for m.frames) l' ≡ drop (words_for m.frames) l

abbrev pub OperationEffect : Bool → Operation → Machine → (ram ledger ram' ledger' : List ℕ) → Outcome → Type 0
OperationEffect true o m ram l ram' l' r = (k : ℕ) × (r ≡ outcome m (Number k)) × OperationDone o m ram l k ram' l'
OperationEffect false o m ram l ram' l' r = AnswersOnly SetupNeeded m ram l ram' l' r

-- `peek A`: "the eight bytes at A .. or `refused`"
abbrev pub peek_reply : Machine → List ℕ → ℕ → Reply
peek_reply m ram a = cond (word_in_ram m a) (Contents (word_at ram (a - m.base))) OutsideRam

-- `stage2 ROOT IPA ACCESS`, `walk ROOT1 ROOT2 VA ACCESS EL`
abbrev pub stage2_reply : Machine → List ℕ → (root ipa access : ℕ) → Reply
stage2_reply m ram root ipa access = Walked (answer_2 (ram_of m ram) m.base m.frames root ipa access)

abbrev pub walk_reply : Machine → List ℕ → (root1 root2 va access el : ℕ) → Reply
walk_reply m ram root1 root2 va access el = Walked (answer (ram_of m ram) m.base m.frames root1 root2 va access el)

-- `translate G IPA ACCESS`: "stage 2 alone from guest G's root, as `stage2` prints it; `5` where there is no such guest"
unfoldable pub translate_reply : Machine → (ram ledger : List ℕ) → (g ipa access : ℕ) → Reply
translate_reply m ram l g ipa access =
    cond (exists_of (ledger_of m l) g)
    (stage2_reply m ram (m.base + frame_bytes * root_of (ledger_of m l) g) ipa access) (Number no_such_guest)

-- a question that the ledger answers
abbrev pub if_ready : Machine → Reply → Reply
if_ready m x = cond m.ready x SetupNeeded

-- the reply to a question
abbrev pub reply_to : Question → Machine → (ram ledger : List ℕ) → Reply
reply_to (PeekWord a) m ram l = peek_reply m ram a
reply_to (WalkStage2 root ipa access) m ram l = stage2_reply m ram root ipa access
reply_to (WalkBoth root1 root2 va access el) m ram l = walk_reply m ram root1 root2 va access el
reply_to (Translate g ipa access) m ram l = if_ready m (translate_reply m ram l g ipa access)
reply_to (AskFrame f) m ram l = if_ready m (Frame f)
reply_to (AskGuest g) m ram l = if_ready m (Guest (guest_told (state_of (ram_of m ram) (ledger_of m l)) g))
reply_to AskLedger m ram l = if_ready m Ledger

-- what a command does, by its kind
abbrev pub Effect : Command → Machine → (ram ledger ram' ledger' : List ℕ) → Outcome → Type 0
Effect (SetUp n b k) m ram l ram' l' r = SetupEffect (allowed_of (length ram / frame_bytes) (length l) n b k) n b k m ram l ram' l' r
Effect (StoreWord a v) m ram l ram' l' r = WordEffect (word_in_ram m a) a v m ram l ram' l' r
Effect (Operate o) m ram l ram' l' r = OperationEffect m.ready o m ram l ram' l' r
Effect (Ask q) m ram l ram' l' r = AnswersOnly (reply_to q m ram l) m ram l ram' l' r

-- what a command did: the answer and both slices after it; and what the next command counts on
pub record Executed (c : Command) (m : Machine) (ram ledger ram' ledger' : List ℕ) (r : Outcome) : Type 0 where
  pub effect : Effect c m ram ledger ram' ledger' r
  pub machine_sound : MachineSound r.machine ram' ledger'
