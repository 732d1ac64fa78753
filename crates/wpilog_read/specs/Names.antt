-- The names of the kinds of fault, as they are printed.
use Rattle.std.specs.Prelude.{ℕ, List, codes}
use Rattle.wpilog_read.specs.declared.fault.LogKind.{LogKind}
use Rattle.wpilog_read.specs.declared.fault.LogKind.TheVariants.{BadMagic, BadVersion, TooLarge, SpareBit, NotLive, ControlShort, UnknownControl, ControlLong, BadText, IdZero, StartTwice, TooManyLive, Misfit, Truncated}

abbrev pub kind_name : LogKind → List ℕ
kind_name BadMagic = codes "BadMagic"
kind_name BadVersion = codes "BadVersion"
kind_name TooLarge = codes "TooLarge"
kind_name SpareBit = codes "SpareBit"
kind_name NotLive = codes "NotLive"
kind_name ControlShort = codes "ControlShort"
kind_name UnknownControl = codes "UnknownControl"
kind_name ControlLong = codes "ControlLong"
kind_name BadText = codes "BadText"
kind_name IdZero = codes "IdZero"
kind_name StartTwice = codes "StartTwice"
kind_name TooManyLive = codes "TooManyLive"
kind_name Misfit = codes "Misfit"
kind_name Truncated = codes "Truncated"
