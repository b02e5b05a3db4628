-- What a command reads and writes, as it stands at one moment.
use Rattle.std.specs.Prelude.{◌≡◌, ℕ, List, Option}
use Rattle.device.specs.Device.{Seen, Written, Took}
use Rattle.folders.specs.Folders.{Files}
use Rattle.folders.specs.Locks.{Locking}
use Rattle.commands.specs.Messages.{IsReported}
use Rattle.commands.specs.declared.messages.Status.{Status}

-- The files, where the folder tells them; what is seen of locks and of the input; what the output holds, and what the messages do, on standard
-- error.
pub record World : Type 0 where
  pub files : Option Files
  pub lock : Locking
  pub input : Seen
  pub output : Written
  pub messages : Written

-- ---- worlds by what tells of their parts: of a folder its files and what it sees of locks, and of streams what they hold

abbrev pub world_of : {F S O E : Type 0} → (F → Option Files) → (F → Locking) → (S → Seen) → (O → Written) → (E → Written) → F → S → O → E → World
world_of files locking seen output messages folder input out err = record {
  files = files folder;
  lock = locking folder;
  input = seen input;
  output = output out;
  messages = messages err;
}

-- the world with this output
abbrev pub printed_world : {O : Type 0} → World → (O → Written) → O → World
printed_world w output out = record w { output = output out }

-- with this output and these messages
abbrev pub reported_world : {O E : Type 0} → World → (O → Written) → (E → Written) → O → E → World
reported_world w output messages out err = record w { output = output out; messages = messages err }

-- with this folder's files, and this output
abbrev pub put_world : {F O : Type 0} → World → (F → Option Files) → (O → Written) → F → O → World
put_world w files output folder out = record w { files = files folder; output = output out }

-- with these messages, too
abbrev pub search_world : {F O E : Type 0} → World → (F → Option Files) → (O → Written) → (E → Written) → F → O → E → World
search_world w files output messages folder out err = record w { files = files folder; output = output out; messages = messages err }

-- with this folder's files, and this input
abbrev pub source_world : {F S : Type 0} → World → (F → Option Files) → (S → Seen) → F → S → World
source_world w files seen folder input = record w { files = files folder; input = seen input }

-- with this output, too
abbrev pub piped_world : {F S O : Type 0} → World → (F → Option Files) → (S → Seen) → (O → Written) → F → S → O → World
piped_world w files seen output folder input out = record w { files = files folder; input = seen input; output = output out }

-- with this output and these messages, too
abbrev pub diff_world : {F S O E : Type 0} → World → (F → Option Files) → (S → Seen) → (O → Written) → (E → Written) → F → S → O → E → World
diff_world w files seen output messages folder input out err = record w { files = files folder; input = seen input; output = output out; messages = messages err }

-- with this folder's files
abbrev pub stored_world : {F : Type 0} → World → (F → Option Files) → F → World
stored_world w files folder = record w { files = files folder }

-- and with what the folder sees of locks
abbrev pub locked_world : {F : Type 0} → World → (F → Option Files) → (F → Locking) → F → World
locked_world w files locking folder = record w { files = files folder; lock = locking folder }

-- with this input and these messages
abbrev pub run_world : {S E : Type 0} → World → (S → Seen) → (E → Written) → S → E → World
run_world w seen messages input err = record w { input = seen input; messages = messages err }

-- with this folder's files, too
abbrev pub change_world : {F S E : Type 0} → World → (F → Option Files) → (S → Seen) → (E → Written) → F → S → E → World
change_world w files seen messages folder input err = record w { files = files folder; input = seen input; messages = messages err }

-- and with what the folder sees of locks
abbrev pub locked_change_world : {F S E : Type 0} → World → (F → Option Files) → (F → Locking) → (S → Seen) → (E → Written) → F → S → E → World
locked_change_world w files locking seen messages folder input err =
    record w { files = files folder; lock = locking folder; input = seen input; messages = messages err }

-- ---- what is printed and reported

-- the text was printed, and nothing else changed
pub record IsPrinted (text : List ℕ) (w w' : World) : Type 0 where
  pub took : Took w.output w'.output text
  pub stays : w' ≡ record w { output = w'.output }

-- the line of the text was reported, with the status that is wanted, or that memory ran out; and nothing else changed
pub record Reports (text : List ℕ) (wanted : Status) (w w' : World) (s : Status) : Type 0 where
  pub reported : IsReported w.messages w'.messages text wanted s
  pub stays : w' ≡ record w { messages = w'.messages }
