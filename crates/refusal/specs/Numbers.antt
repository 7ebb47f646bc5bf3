-- The numbers of the causes and of the layers.
use Rattle.std.specs.Prelude.{ℕ, ◌/◌}
use Rattle.refusal.specs.declared.Cause.{Cause}
use Rattle.refusal.specs.declared.Cause.TheVariants.{Truncated, UnexpectedTag, BadLength, BadContent, SheetTooLong, TooMany, GridTooLarge, RepeatedName, UnknownAttribute, ForeignValue, RepeatedAttribute, MissingAttribute, UnexpectedText, TooManyOpen, TextTooLong, NoSuchMark, TargetTaken, OperandVacant, NoSuchCode, CapacityLacking, MemoryTooShort, TooManyRecords, Mismatch}
use Rattle.refusal.specs.declared.Layer.{Layer}
use Rattle.refusal.specs.declared.Layer.TheVariants.{Fields, Words, Text, Collection}

-- the number of a cause
abbrev pub number_of : Cause → ℕ
number_of Truncated = 10
number_of UnexpectedTag = 11
number_of BadLength = 12
number_of BadContent = 13
number_of SheetTooLong = 14
number_of TooMany = 20
number_of GridTooLarge = 21
number_of RepeatedName = 22
number_of UnknownAttribute = 23
number_of ForeignValue = 24
number_of RepeatedAttribute = 25
number_of MissingAttribute = 26
number_of UnexpectedText = 30
number_of TooManyOpen = 31
number_of TextTooLong = 33
number_of NoSuchMark = 40
number_of TargetTaken = 41
number_of OperandVacant = 42
number_of NoSuchCode = 43
number_of CapacityLacking = 44
number_of MemoryTooShort = 45
number_of TooManyRecords = 46
number_of Mismatch = 47

-- the layer of a number is its tens digit
abbrev pub layer_of : ℕ → ℕ
layer_of n = n / 10

-- the number of a layer
abbrev pub layer_number : Layer → ℕ
layer_number Fields = 1
layer_number Words = 2
layer_number Text = 3
layer_number Collection = 4
