-- Whether two tokens are of one kind.
use Rattle.std.specs.Prelude.{Bool}
use denote.Enum.Bare.{sameb}
use Rattle.smk_base.specs.contracts.book.token.TokenKind as contracts
use Rattle.smk_base.specs.declared.book.token.TokenKind.{TokenKind}

abbrev pub same_kind : TokenKind → TokenKind → Bool
same_kind = sameb contracts.the_type
