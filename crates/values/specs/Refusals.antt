-- The number of each refusal.
use Rattle.std.specs.Prelude.{ℕ}
use Rattle.values.specs.declared.refusal.Refusal.{Refusal}
use Rattle.values.specs.declared.refusal.Refusal.TheVariants.{InvalidName, BlockNumberTooLarge, InvalidLength, BufferTooShort, MomentNotKept, NoSuchDirectory, NoSuchName, NoSuchFile, NoSuchBlock, DirectoryNotEmpty, NameInUse, DirectoryWouldMove, FileElsewhere, ObjectsExhausted, MomentsExhausted, NamesFull, BlocksFull, EntryNotAboveLast, StoreFull, NoSuchEntry, MomentTaken, HistoryFull, NoSuchVersion, BeyondLimit}

abbrev pub number_of : Refusal → ℕ
number_of InvalidName = 1
number_of BlockNumberTooLarge = 2
number_of InvalidLength = 3
number_of BufferTooShort = 4
number_of MomentNotKept = 5
number_of NoSuchDirectory = 6
number_of NoSuchName = 7
number_of NoSuchFile = 8
number_of NoSuchBlock = 9
number_of DirectoryNotEmpty = 10
number_of NameInUse = 11
number_of DirectoryWouldMove = 12
number_of FileElsewhere = 13
number_of ObjectsExhausted = 14
number_of MomentsExhausted = 15
number_of NamesFull = 16
number_of BlocksFull = 17
number_of EntryNotAboveLast = 18
number_of StoreFull = 19
number_of NoSuchEntry = 20
number_of MomentTaken = 21
number_of HistoryFull = 22
number_of NoSuchVersion = 23
number_of BeyondLimit = 24
