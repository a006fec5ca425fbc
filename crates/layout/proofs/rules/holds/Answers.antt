-- Each class by its function.
use Rattle.std.proofs.Common.{rules}
use Rattle.layout.specs.Rules.{holds, meets}
use Rattle.text.specs.Characters.{zeros}
use Rattle.layout.proofs.rules.holds.Goals as goal

pub returns-in-Each : goal.returns-in-Each
unfolding holds meets zeros
returns-in-Each c = search rules

pub returns-in-CodeText : goal.returns-in-CodeText
unfolding holds meets zeros
returns-in-CodeText c = search rules

pub returns-in-Filled : goal.returns-in-Filled
unfolding holds meets zeros
returns-in-Filled c = search rules

pub returns-in-Owner : goal.returns-in-Owner
unfolding holds meets zeros
returns-in-Owner c = search rules

pub returns-in-Institution : goal.returns-in-Institution
unfolding holds meets zeros
returns-in-Institution c = search rules

pub returns-in-KindName : goal.returns-in-KindName
unfolding holds meets zeros
returns-in-KindName c = search rules

pub returns-in-Date : goal.returns-in-Date
unfolding holds meets zeros
returns-in-Date c = search rules

pub returns-in-NameDate : goal.returns-in-NameDate
unfolding holds meets zeros
returns-in-NameDate c = search rules

pub returns-in-Serial : goal.returns-in-Serial
unfolding holds meets zeros
returns-in-Serial c = search rules

pub returns-in-AsHeader : goal.returns-in-AsHeader
unfolding holds meets zeros
returns-in-AsHeader c = search rules

pub returns-in-NotLater : goal.returns-in-NotLater
unfolding holds meets zeros
returns-in-NotLater c = search rules

pub returns-in-Office : goal.returns-in-Office
unfolding holds meets zeros
returns-in-Office c = search rules

pub returns-in-NotZero : goal.returns-in-NotZero
unfolding holds meets zeros
returns-in-NotZero c = search rules

pub returns-in-Failed : goal.returns-in-Failed
unfolding holds meets zeros
returns-in-Failed c = search rules

pub returns-then-failed : goal.returns-then-failed
unfolding holds meets zeros
returns-then-failed c = search rules

pub returns-else-failed : goal.returns-else-failed
unfolding holds meets zeros
returns-else-failed c = search rules

pub returns-in-Least : goal.returns-in-Least
unfolding holds meets zeros
returns-in-Least c = search rules

pub returns-in-LongDate : goal.returns-in-LongDate
unfolding holds meets zeros
returns-in-LongDate c = search rules

pub returns-in-HeaderFrom : goal.returns-in-HeaderFrom
unfolding holds meets zeros
returns-in-HeaderFrom c = search rules

pub returns-in-Extension : goal.returns-in-Extension
unfolding holds meets zeros
returns-in-Extension c = search rules

pub returns-in-PassbookForm : goal.returns-in-PassbookForm
unfolding holds meets zeros
returns-in-PassbookForm c = search rules

pub returns-in-OneOf : goal.returns-in-OneOf
unfolding holds meets zeros
returns-in-OneOf c = search rules
