-- The numbers of 01 and 02 for what is refused: "Every malformed input is refused under its number". Assumes nothing: these are definitions.
use Rattle.std.specs.Prelude.{ℕ}
use Rattle.automata.specs.declared.refusal.Refusal.{Refusal}
use Rattle.automata.specs.declared.refusal.Refusal.TheVariants.{ShortImage, StateCount, SymbolCount, RowCount, ImageLength, StateSet, Pair, Row, UnevenRoom, LargeTable, UnknownSymbol, BrokenRecord, ShortRoom, UnknownEdition, UnknownWay}

abbrev pub number_of : Refusal → ℕ
number_of ShortImage = 20
number_of StateCount = 21
number_of SymbolCount = 22
number_of RowCount = 23
number_of ImageLength = 24
number_of StateSet = 25
number_of Pair = 26
number_of Row = 27
number_of UnevenRoom = 30
number_of LargeTable = 31
number_of UnknownSymbol = 32
number_of BrokenRecord = 33
number_of ShortRoom = 35
number_of UnknownEdition = 36
number_of UnknownWay = 37
