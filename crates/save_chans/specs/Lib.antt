pub mod Chan
