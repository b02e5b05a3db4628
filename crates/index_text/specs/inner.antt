pub mod SlotTests
