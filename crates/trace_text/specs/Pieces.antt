-- A text that is written piece by piece.
use Rattle.std.specs.Prelude.{ℕ, List}
use Rattle.std.specs.Fmt.{decimal}
use Rattle.std.specs.List.{flat_map}
use Rattle.plain_machine.specs.Lines.{block_words}
use Rattle.trace_text.specs.declared.pieces.Piece.{Piece}
use Rattle.trace_text.specs.declared.pieces.Piece.TheVariants.{Text, Number, Words}

abbrev pub piece_text : Piece → List ℕ
piece_text (Text text) = text.now
piece_text (Number n) = decimal n
piece_text (Words blocks) = block_words blocks.now

abbrev pub pieces_text : List Piece → List ℕ
pieces_text = flat_map piece_text
