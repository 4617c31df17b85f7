-- The table of faults: what each is called, which number it has, and what sort it is of.
use Rattle.std.specs.Prelude.{ℕ, List, codes}
use Rattle.fc_base.specs.declared.fault.Fault.{Fault}
use Rattle.fc_base.specs.declared.fault.Fault.TheVariants.{JobTooLong, NotAscii, BadLine, UnknownOption, BadValue, JobNoJobs, TooManyJobs, NoSize}
use Rattle.fc_base.specs.declared.fault.Fault.TheVariants.{OutOfLimits, SharedFile, MixedPhases, JobNoMemory, WrongPhase, OldBoot, NotInFlight, StateShort}
use Rattle.fc_base.specs.declared.fault.Fault.TheVariants.{StateBadMagic, StateBadField, Impossible, StateTrailing, NoMemory, OtherKey, OtherJob, OtherPlace}
use Rattle.fc_base.specs.declared.fault.Fault.TheVariants.{FrameShort, FrameBadMagic, BadKind, FrameBadField, FrameTooLong, FrameTrailing, FrameNoMemory}
use Rattle.fc_base.specs.declared.fault.Fault.TheVariants.{Off, WriteFault, ReadFault, SaveFault, BadNote, LoadFault, Old, Busy, NoJobs, Gone, Overwritten}
use Rattle.fc_base.specs.declared.fault.Fault.TheVariants.{Unknown, BadJobs, Misfit, Down, Misdirected, NoSuchRun, Conflict, NumbersSpent, TableFull}
use Rattle.fc_base.specs.declared.fault.Fault.TheVariants.{NoFrame, NodeOff, NodeOn, NoWrite, NoSave, NoServer, Unlike, UsedGeneration, BadGeneration}
use Rattle.fc_base.specs.declared.fault.Fault.TheVariants.{NoMirror, TurnsSpent, ReadError, WriteError, WrongSeat, BadNotice, EndOfInput, NoJob}
use Rattle.fc_base.specs.declared.fault.FaultSort.{FaultSort}
use Rattle.fc_base.specs.declared.fault.FaultSort.TheVariants.{Memory, Save, Refusal}

-- The number of a fault.
abbrev pub number_of : Fault → ℕ
number_of JobTooLong = 1
number_of NotAscii = 2
number_of BadLine = 3
number_of UnknownOption = 4
number_of BadValue = 5
number_of JobNoJobs = 6
number_of TooManyJobs = 7
number_of NoSize = 8
number_of OutOfLimits = 9
number_of SharedFile = 10
number_of MixedPhases = 11
number_of JobNoMemory = 12
number_of WrongPhase = 13
number_of OldBoot = 20
number_of NotInFlight = 21
number_of StateShort = 30
number_of StateBadMagic = 31
number_of StateBadField = 32
number_of Impossible = 33
number_of StateTrailing = 34
number_of NoMemory = 35
number_of OtherKey = 36
number_of OtherJob = 37
number_of OtherPlace = 38
number_of FrameShort = 40
number_of FrameBadMagic = 41
number_of BadKind = 42
number_of FrameBadField = 43
number_of FrameTooLong = 44
number_of FrameTrailing = 45
number_of FrameNoMemory = 46
number_of Off = 50
number_of WriteFault = 51
number_of ReadFault = 52
number_of SaveFault = 53
number_of BadNote = 54
number_of LoadFault = 55
number_of Old = 60
number_of Busy = 61
number_of NoJobs = 62
number_of Gone = 63
number_of Overwritten = 64
number_of Unknown = 65
number_of BadJobs = 66
number_of Misfit = 67
number_of Down = 68
number_of Misdirected = 69
number_of NoSuchRun = 70
number_of Conflict = 71
number_of NumbersSpent = 72
number_of TableFull = 73
number_of NoFrame = 80
number_of NodeOff = 81
number_of NodeOn = 82
number_of NoWrite = 83
number_of NoSave = 84
number_of NoServer = 85
number_of Unlike = 86
number_of UsedGeneration = 87
number_of BadGeneration = 88
number_of NoMirror = 89
number_of TurnsSpent = 90
number_of ReadError = 91
number_of WriteError = 92
number_of WrongSeat = 93
number_of BadNotice = 94
number_of EndOfInput = 95
number_of NoJob = 96

-- The name that is printed for a fault.
abbrev pub name_of : Fault → List ℕ
name_of JobTooLong = codes "TooLong"
name_of NotAscii = codes "NotAscii"
name_of BadLine = codes "BadLine"
name_of UnknownOption = codes "UnknownOption"
name_of BadValue = codes "BadValue"
name_of JobNoJobs = codes "NoJobs"
name_of TooManyJobs = codes "TooManyJobs"
name_of NoSize = codes "NoSize"
name_of OutOfLimits = codes "OutOfLimits"
name_of SharedFile = codes "SharedFile"
name_of MixedPhases = codes "MixedPhases"
name_of JobNoMemory = codes "NoMemory"
name_of WrongPhase = codes "WrongPhase"
name_of OldBoot = codes "OldBoot"
name_of NotInFlight = codes "NotInFlight"
name_of StateShort = codes "Short"
name_of StateBadMagic = codes "BadMagic"
name_of StateBadField = codes "BadField"
name_of Impossible = codes "Impossible"
name_of StateTrailing = codes "Trailing"
name_of NoMemory = codes "NoMemory"
name_of OtherKey = codes "OtherKey"
name_of OtherJob = codes "OtherJob"
name_of OtherPlace = codes "OtherPlace"
name_of FrameShort = codes "Short"
name_of FrameBadMagic = codes "BadMagic"
name_of BadKind = codes "BadKind"
name_of FrameBadField = codes "BadField"
name_of FrameTooLong = codes "TooLong"
name_of FrameTrailing = codes "Trailing"
name_of FrameNoMemory = codes "NoMemory"
name_of Off = codes "Off"
name_of WriteFault = codes "WriteFault"
name_of ReadFault = codes "ReadFault"
name_of SaveFault = codes "SaveFault"
name_of BadNote = codes "BadNote"
name_of LoadFault = codes "LoadFault"
name_of Old = codes "Old"
name_of Busy = codes "Busy"
name_of NoJobs = codes "NoJobs"
name_of Gone = codes "Gone"
name_of Overwritten = codes "Overwritten"
name_of Unknown = codes "Unknown"
name_of BadJobs = codes "BadJobs"
name_of Misfit = codes "Misfit"
name_of Down = codes "Down"
name_of Misdirected = codes "Misdirected"
name_of NoSuchRun = codes "NoSuchRun"
name_of Conflict = codes "Conflict"
name_of NumbersSpent = codes "NumbersSpent"
name_of TableFull = codes "TableFull"
name_of NoFrame = codes "NoFrame"
name_of NodeOff = codes "NodeOff"
name_of NodeOn = codes "NodeOn"
name_of NoWrite = codes "NoWrite"
name_of NoSave = codes "NoSave"
name_of NoServer = codes "NoServer"
name_of Unlike = codes "Unlike"
name_of UsedGeneration = codes "UsedGeneration"
name_of BadGeneration = codes "BadGeneration"
name_of NoMirror = codes "NoMirror"
name_of TurnsSpent = codes "TurnsSpent"
name_of ReadError = codes "ReadError"
name_of WriteError = codes "WriteError"
name_of WrongSeat = codes "WrongSeat"
name_of BadNotice = codes "BadNotice"
name_of EndOfInput = codes "EndOfInput"
name_of NoJob = codes "NoJob"

-- The faults that say that memory ran out, the one that says that a save failed, and all others.
abbrev pub sort_of : Fault → FaultSort
sort_of JobNoMemory = Memory
sort_of NoMemory = Memory
sort_of FrameNoMemory = Memory
sort_of SaveFault = Save
sort_of _ = Refusal
