mod Fitting
mod Calls
pub mod RuleThree
pub mod SureStep
pub mod StaysInRange
pub mod Answers
pub mod Endings
pub mod OneAnswer
pub mod Headings
pub mod Paper
pub mod Taken
pub mod Subtotals
pub mod Limits
pub mod Halves
pub mod Totals
pub mod SoFar
pub mod WholeLines
pub mod SameLine
pub mod PigNitrogen
pub mod WholeNumbers
pub mod Warming
pub mod EachLine
pub mod ThreeRules
