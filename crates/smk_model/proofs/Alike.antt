-- What the test of two kinds says.
use Rattle.std.proofs.Common.{◌≡◌, true, rules, refl}
use denote.Enum.Bare.{same_true}
use Rattle.smk_base.specs.contracts.book.token.TokenKind as contracts
use Rattle.smk_base.specs.declared.book.token.TokenKind.{TokenKind}
use Rattle.smk_base.specs.declared.book.token.TokenKind.TheVariants as kinds
use Rattle.smk_model.specs.TokenKinds.{same_kind}

pub same_is : (k j : TokenKind) → same_kind k j ≡ true → k ≡ j
same_is k j e = same_true contracts.the_type (search rules) k j e

pub same_self : (k : TokenKind) → same_kind k k ≡ true
same_self kinds.All = refl
same_self _ = refl
