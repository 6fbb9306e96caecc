-- Laws of steps over a backward answer.
use Rattle.std.specs.Prelude.{◌≡◌, ◌≤◌, List, [], ◌∷◌, length, None, All}
use Rattle.smk_base.specs.{CatalogImage.CatalogImage, Plans.Unary, Trees.AskImage}
use Rattle.smk_model.specs.{Values.Row, Asks.{ask_reply, back_line, chain}, AskTexts.{IsAskReplyTo, IsBackReply}, Catalogs.IsCatalog, Replies.reply, Selection.{first_full, node_rows, row_limit}, Session.State}

-- no step of a chain adds rows
abbrev pub ChainsAddNoRows : Type 0
ChainsAddNoRows = (ops : List Unary) (rows : List Row) → All (λ node. length node ≤ length rows) (node_rows (chain ops) (rows ∷ []))

-- so no node of a chain has too many rows unless its leaf has
abbrev pub ChainsAreSmall : Type 0
ChainsAreSmall = (ops : List Unary) (rows : List Row) → length rows ≤ row_limit → first_full (chain ops) (rows ∷ []) ≡ None

-- over a checked book the reply to the `back` line within an `ask` line is rows of the table or a refusal, and leaves the state as it is
pub record BacksFit (catalog : CatalogImage) (state : State) (asked : AskImage) : Type 0 where
  pub fits : IsBackReply catalog asked (reply catalog state (back_line asked)).0
  pub stays : (reply catalog state (back_line asked)).1 ≡ state

abbrev pub AskedBacksFit : Type 0
AskedBacksFit = (catalog : CatalogImage) (state : State) (asked : AskImage) → IsCatalog catalog → BacksFit catalog state asked

-- over a checked book every answer to an `ask` line fits that line
abbrev pub AsksFit : Type 0
AsksFit = (catalog : CatalogImage) (state : State) (asked : AskImage) → IsCatalog catalog → IsAskReplyTo asked (ask_reply catalog state asked)
