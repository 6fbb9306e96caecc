mod BareRecords
mod DemoTexts
pub mod Records
