-- What the program does with what the system answers.
use Rattle.std.specs.Prelude.{◌≡◌, ◌≢◌, ◌⊎◌, Result, Ok, Err, String, Vec, codes, drop, map}
use Rattle.std.specs.IoError.{error_kind}
use Rattle.std.specs.String.{string_bytes}
use Rattle.std.specs.declared.alloc.Global.{Global}
use Rattle.std.specs.declared.io.Error.{Error}
use Rattle.std.specs.declared.io.ErrorKind.TheVariants.{OutOfMemory}
use Rattle.ch_text.specs.declared.device.file.ReaderInput.{ReaderInput}
use Rattle.ch_line.specs.declared.files.OpenFault.{OpenFault}
use Rattle.ch_words.specs.declared.fault.LineFault.{LineFault}
use Rattle.ch_words.specs.Line.{IsRefusedFor}

-- the opening of a file is answered: with an input that reads this very file, or with the reason why there is none
abbrev pub IsOpening : {D : Type 0} → Result D Error → Result (ReaderInput D) OpenFault → Type 0
IsOpening (Ok file) (Ok input) = input.reader ≡ file
IsOpening (Ok file) (Err fault) = ⊥
IsOpening (Err error) (Ok input) = ⊥
IsOpening (Err error) (Err OpenFault.Memory) = error_kind error ≡ OutOfMemory
IsOpening (Err error) (Err OpenFault.Refused) = error_kind error ≢ OutOfMemory

-- these are all words that the system told but the first, which is the program's name. If it told none, there is no memory, or a word is
-- refused for not being UTF-8
abbrev pub AreWords : Result (Vec (String Global) Global) Error → Result (Vec (String Global) Global) LineFault → Type 0
AreWords (Ok told) (Ok words) = map string_bytes words.items ≡ drop 1 (map string_bytes told.items)
AreWords (Ok told) (Err fault) = ⊥
AreWords (Err error) (Ok words) = ⊥
AreWords (Err error) (Err fault) =
    ((error_kind error ≡ OutOfMemory) × (fault ≡ LineFault.NoMemory))
    ⊎ ((error_kind error ≢ OutOfMemory) × IsRefusedFor (codes "chtab: a word is not UTF-8\n") fault)
