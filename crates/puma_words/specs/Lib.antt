pub mod Control
pub mod ControlProgram
pub mod ControlSaid
pub mod Program
pub mod Said
pub mod Words
